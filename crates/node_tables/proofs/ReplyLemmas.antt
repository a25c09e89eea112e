-- An answer is put in one packet, or its parts are put one after another.
use Rattle.std.proofs.Common.{◌≡◌, ◌≤◌, ◌<◌, ◌+◌, ◌*◌, ◌-◌, ◌&&◌, ℕ, suc, Bool, true, false, cond, nat_lt, [], ◌∷◌, ◌++◌, length, map, flat_map, Option, Result, refl, sym, ap, ◌∙◌, subst, arith, append-nil}
use Rattle.std.specs.List.{range_with_len}
use Rattle.std.proofs.lemmas.Bool.{ltb-false}
use Rattle.mesh_base.specs.declared.address.Mac.{Mac}
use Rattle.mesh_model.specs.declared.act.Act.{Act}
use Rattle.mesh_model.specs.declared.ending.LimitName.{LimitName}
use Rattle.mesh_model.specs.Acts.TableRows.{part_acts}
use Rattle.mesh_model.specs.Tables.Answers.{Reply, numbered_part, whole_part}
use Rattle.mesh_model.specs.Tables.Pieces.{piece_count, piece_size, places}
use Rattle.node_ground.specs.declared.failure.NodeErr.{NodeErr}
use Rattle.node_ground.specs.Puts.{Puts, StopsAt, TakesAll}
use Rattle.node_ground.specs.Sending.{FitsPacket, FitsParts}
use Rattle.node_ground.proofs.PutsLemmas.{puts_behind, stops_among}
use Rattle.node_tables.specs.Replies.{in_parts, numbered_acts, reply_acts}

-- behind the last part nothing is put
pub none_from : (next : Option Mac) (orig asker : Mac) (reply : Reply) (number : ℕ) → piece_count reply.records ≤ number → numbered_acts next orig asker reply number ≡ []
none_from next orig asker reply number past =
    let none : piece_count reply.records - number ≡ 0 = omega (arith, past) in
    ap (λ n. flat_map (part_acts next orig asker) (map (numbered_part reply) (range_with_len number n))) none

-- a part, and those behind it
one_from : (next : Option Mac) (orig asker : Mac) (reply : Reply) (number : ℕ) → number < piece_count reply.records
    → part_acts next orig asker (numbered_part reply number) ++ numbered_acts next orig asker reply (number + 1) ≡ numbered_acts next orig asker reply number
one_from next orig asker reply number below =
    let more : suc (piece_count reply.records - (number + 1)) ≡ piece_count reply.records - number = omega (arith, below) in
    ap (λ n. flat_map (part_acts next orig asker) (map (numbered_part reply) (range_with_len number n))) more

module _ {P : Type 0} (takes : P → Act → P → Type 0) (same : P → P → Type 0) (over : P → Act → Option LimitName)
    (next : Option Mac) (orig asker : Mac) (reply : Reply) (number : ℕ) (below : number < piece_count reply.records) where
  -- it stops in the first of them
  pub part_stops : (error : NodeErr) (old new : P) → StopsAt takes same over error old (part_acts next orig asker (numbered_part reply number)) new
      → StopsAt takes same over error old (numbered_acts next orig asker reply number) new
  part_stops error old new stop =
      subst (λ acts. StopsAt takes same over error old acts new) (one_from next orig asker reply number below)
      (stops_among takes same over error old new (part_acts next orig asker (numbered_part reply number)) (numbered_acts next orig asker reply (number + 1)) stop)

  -- behind the first of them the others are put
  pub parts_put : (old mid new : P) (result : Result Unit NodeErr) → TakesAll takes over old (part_acts next orig asker (numbered_part reply number)) mid
      → Puts takes same over mid (numbered_acts next orig asker reply (number + 1)) result new → Puts takes same over old (numbered_acts next orig asker reply number) result new
  parts_put old mid new result all puts =
      subst (λ acts. Puts takes same over old acts result new) (one_from next orig asker reply number below)
      (puts_behind takes same over old mid new (part_acts next orig asker (numbered_part reply number)) (numbered_acts next orig asker reply (number + 1)) result all puts)

-- a whole table with more entries than go in one packet goes in all its parts
pub all_parts : (next : Option Mac) (orig asker : Mac) (reply : Reply) → in_parts reply ≡ true → numbered_acts next orig asker reply 0 ≡ reply_acts next orig asker reply
all_parts next orig asker reply is =
    let all : piece_count reply.records - 0 ≡ piece_count reply.records = omega arith in
    ap (λ n. flat_map (part_acts next orig asker) (map (numbered_part reply) (range_with_len 0 n))) all
    ∙ ap (λ b. flat_map (part_acts next orig asker) (cond b (map (numbered_part reply) (places (piece_count reply.records))) (whole_part reply ∷ []))) (sym is)

-- else it goes in one packet
pub one_packet : (next : Option Mac) (orig asker : Mac) (reply : Reply) → in_parts reply ≡ false → part_acts next orig asker (whole_part reply) ≡ reply_acts next orig asker reply
one_packet next orig asker reply is =
    sym (append-nil (part_acts next orig asker (whole_part reply)))
    ∙ ap (λ b. flat_map (part_acts next orig asker) (cond b (map (numbered_part reply) (places (piece_count reply.records))) (whole_part reply ∷ []))) (sym is)

-- which fits
pub one_fits : (reply : Reply) → FitsParts reply → in_parts reply ≡ false → FitsPacket reply
unfolding piece_size
one_fits reply fits is = go reply.full is fits.changes
  where
    room : length reply.records ≤ 1024 → 8 + 8 * length reply.stamp.sums + 12 * length reply.records ≤ 65535
    room few = let sums = fits.sums in omega (arith, sums, few)

    go : (full : Bool) → (full && nat_lt 1024 (length reply.records)) ≡ false → (full ≡ false → length reply.records ≤ 1024) → FitsPacket reply
    go true small few = room (ltb-false 1024 (length reply.records) small)
    go false small few = room (few refl)
