-- An announcement that tells again what was told before.
use Rattle.std.proofs.Common.{◌≡◌, ◌<◌, ◌&&◌, true, cond, List, [], ◌∷◌, length, Some, None, is_none, nat_eq, refl, ap, ap₂, ◌∙◌, arith}
use Rattle.std.proofs.lemmas.Bool.{eq-eqb}
use Rattle.mesh_model.specs.Packets.Bodies.{VlanSum}
use Rattle.mesh_model.specs.declared.table_change.Change.{Change}
use Rattle.mesh_model.specs.declared.table_outcome.Heard.{Heard}
use Rattle.mesh_model.specs.declared.table_outcome.Heard.TheVariants.{Gap, Same}
use Rattle.mesh_model.specs.Tables.Differences.{first_difference}
use Rattle.mesh_model.specs.Tables.Judging.{Row, announcement_row, next_byte_row, row_by_vlans, same_byte_row, stays}
use Rattle.mesh_model.specs.Tables.Known.{matches_told}
use Rattle.mesh_model.specs.Tables.Sums.{sum_at, sums_of}
use Rattle.mesh_model.specs.Tables.Versions.{Stamp, Version, next_byte}
use Rattle.mesh_laws.proofs.DifferenceLemmas.{finds_each_difference}

-- sums differ nowhere from the same
same_sums : (kept told : List VlanSum) → kept ≡ told → first_difference kept told ≡ None
same_sums kept told same = (finds_each_difference kept told).1 (ap sum_at same)

named : (sums : List VlanSum) (row : Row Heard) → 0 < length sums → row_by_vlans sums row ≡ row
named [] row some = absurd (omega (arith, some))
named (first ∷ others) row some = refl

-- what is held under its byte has its sums
pub again_row : (held : Version) (stamp : Stamp) (changes : List Change) → held.byte ≡ stamp.byte → sums_of held.table ≡ stamp.sums → 0 < length stamp.sums
    → announcement_row (Some held) stamp changes ≡ stays Same
again_row held stamp changes byte_is sums_are some =
    named stamp.sums _ some
    ∙ ap (λ b. cond b (same_byte_row (first_difference (sums_of held.table) stamp.sums)) (cond (nat_eq (next_byte held.byte) stamp.byte) (next_byte_row held stamp changes) (stays (Gap held.byte stamp.byte)))) (eq-eqb held.byte stamp.byte byte_is)
    ∙ ap same_byte_row (same_sums (sums_of held.table) stamp.sums sums_are)

-- it matches what was told
pub again_matches : (told stamp : Stamp) → told.byte ≡ stamp.byte → told.sums ≡ stamp.sums → matches_told (Some told) stamp ≡ true
again_matches told stamp byte_is sums_are = ap₂ (λ b d. b && is_none d) (eq-eqb told.byte stamp.byte byte_is) (same_sums told.sums stamp.sums sums_are)
