-- The value of an OGM fits a byte, and what it is by cases.
use Rattle.std.proofs.Common.{◌≡◌, ℕ, ◌*◌, ◌/◌, ◌<◌, ◌≤◌, min, cond, arith, sym, ap}
use Rattle.std.proofs.lemmas.Bool.{eq-eqb, ne_eqb}
use Rattle.std.proofs.lemmas.Nat.{div_below, mul-le}
use Rattle.mesh_model.specs.Routes.Quality.{transmit_quality, link_quality, asymmetry}

pub value_none : (tq echo receive : ℕ) → receive ≡ 0 → 0 ≡ transmit_quality tq echo receive
unfolding transmit_quality
value_none tq echo receive e = sym (ap (λ b. cond b 0 (tq * link_quality echo receive * asymmetry receive / 65025)) (eq-eqb receive 0 e))

pub value_some : (tq echo receive : ℕ) → (receive ≡ 0 → ⊥) → tq * link_quality echo receive * asymmetry receive / 65025 ≡ transmit_quality tq echo receive
unfolding transmit_quality
value_some tq echo receive n = sym (ap (λ b. cond b 0 (tq * link_quality echo receive * asymmetry receive / 65025)) (ne_eqb receive 0 n))

link_fits : (echo receive : ℕ) → (receive ≡ 0 → ⊥) → link_quality echo receive < 256
link_fits echo receive n = div_below (255 * min echo receive) receive 256 (omega arith) (omega arith)

pub value_fits : (tq echo receive : ℕ) → (receive ≡ 0 → ⊥) → tq < 256 → tq * link_quality echo receive * asymmetry receive / 65025 < 256
value_fits tq echo receive n fits =
    let l = link_fits echo receive n in
    let product : tq * link_quality echo receive ≤ 255 * 255 = mul-le tq (link_quality echo receive) 255 255 (omega arith) (omega arith) in
    let whole : tq * link_quality echo receive * asymmetry receive ≤ 255 * 255 * 255 = mul-le (tq * link_quality echo receive) (asymmetry receive) (255 * 255) 255 product (omega arith) in
    div_below (tq * link_quality echo receive * asymmetry receive) 65025 256 (omega arith) (omega arith)
