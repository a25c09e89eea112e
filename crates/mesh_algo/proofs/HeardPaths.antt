-- How a hearing changes the row of a neighbour in a life, whatever the row keeps of the numbers and
-- their values. A number that was heard before changes no row.
use Rattle.std.proofs.Common.{◌≡◌, ⊎_elim, ℕ, true, false, not, ◌&&◌, List, ◌∷◌, Option, sym, ap, ◌∙◌}
use Rattle.std.proofs.lemmas.Bool.{cases_Bool, not-false}
use Rattle.mesh_base.specs.declared.address.Mac.{Mac}
use Rattle.mesh_model.specs.Routes.Addresses.{same_mac}
use Rattle.mesh_model.specs.Routes.Life.{HeardOgm, numbers_from, is_first, value_at}
use Rattle.mesh_model.specs.Routes.Numbers.{has}
use Rattle.mesh_laws.proofs.MacLemmas.{same_exact}
use Rattle.mesh_algo.proofs.LifeLemmas.{late_numbers, other_numbers, own_numbers, other_value, again_value}

module _ {X : Type 0} (row : List ℕ → (ℕ → ℕ) → Option X) (again : (s : ℕ) (numbers : List ℕ) (value : ℕ → ℕ) → has s numbers ≡ true → row (s ∷ numbers) value ≡ row numbers value)
    (k : Mac) (h : HeardOgm) (alive : List HeardOgm) where
  abbrev row_in : List HeardOgm → Option X
  row_in l = row (numbers_from k l) (λ n. value_at n k l)

  same_row : numbers_from k (h ∷ alive) ≡ numbers_from k alive → ((n : ℕ) → value_at n k (h ∷ alive) ≡ value_at n k alive) → row_in (h ∷ alive) ≡ row_in alive
  same_row numbers values = λ i. row (numbers i) (λ n. values n i)

  -- a hearing over another neighbour leaves the row
  pub other_row : same_mac h.from k ≡ false → row_in (h ∷ alive) ≡ row_in alive
  other_row e = same_row (other_numbers k h alive e) (λ n. other_value n k h alive e)

  -- so does one that is late or repeated
  pub touched_row : is_first h alive ≡ false → row_in (h ∷ alive) ≡ row_in alive
  touched_row e =
      ⊎_elim (λ late. same_row (late_numbers k h alive late) (λ n. again_value n k h alive e))
      (λ timely. ⊎_elim (λ same.
      let heard : has h.seq (numbers_from k alive) ≡ true
      = ap (λ j. has h.seq (numbers_from j alive)) (sym (same_exact h.from k same)) ∙ not-false _ (sym (ap (λ b. not b && not (has h.seq (numbers_from h.from alive))) timely) ∙ e) in
      (λ i. row (own_numbers k h alive timely same i) (λ n. again_value n k h alive e i)) ∙ again h.seq (numbers_from k alive) (λ n. value_at n k alive) heard)
      (λ other. other_row other) (cases_Bool (same_mac h.from k)))
      (cases_Bool h.late)
