-- What the laws on marks and advertisements rest on.
use Rattle.std.proofs.Common.{◌≡◌, ◌∙◌, refl, sym, ap, ℕ, suc, zero, ◌-◌, ◌≤◌, nat_lt, true, false, not, cond, List, [], ◌∷◌, slice_get, Option, Some, None, option_and_then, arith}
use Rattle.std.specs.List.{AllByRecursion}
use Rattle.std.specs.List.Sorted.{IsStrictlySortedBy}
use Rattle.std.specs.Map.{keys_of, lookup}
use Rattle.std.proofs.lemmas.Bool.Decides.{nat_tests}
use Rattle.std.proofs.lemmas.Map.Entries.{option_filter}
use Rattle.mesh_base.specs.KeyOrder.{key_order}
use Rattle.mesh_base.specs.declared.address.Mac.{Mac}
use Rattle.mesh_base.specs.declared.client.Key.{Key}
use Rattle.mesh_model.specs.declared.roaming_mark.RoamingMark.{RoamingMark}
use Rattle.mesh_model.specs.Clients.Present.{same_key}
use Rattle.mesh_model.specs.Marks.Calls.{Call, Marked, Released, Unmarked, Advised, Asked, Forgotten}
use Rattle.mesh_model.specs.Marks.RoamingMarks.{is_ended, released, next_mark, next_marks, marks_by}
use Rattle.mesh_model.specs.Marks.Advertisements.{if_young}
use Rattle.mesh_laws.specs.MarkLaws.{Falls, HasTheMarkOfEachKey, IsInKeyOrder, young_sent}
use Rattle.mesh_laws.proofs.AscendingKeys.{ascend_inserted, ascend_filtered, ascend_removed, found_inserted, found_filtered, found_removed}
use Rattle.mesh_laws.proofs.PresentLemmas.{key_total, key_exact}

-- ---- marks
ascend_next : (call : Call) (es : List (Key × RoamingMark)) → IsStrictlySortedBy key_order (keys_of es) → IsStrictlySortedBy key_order (keys_of (next_marks call es))
ascend_next (Marked now k target told) es s = ascend_inserted key_total key_exact es k _ s
ascend_next (Released target byte) es s = ascend_filtered key_total key_exact _ es s
ascend_next (Unmarked k) es s = ascend_removed key_total key_exact _ es s
ascend_next (Advised now k) es s = s
ascend_next (Asked now orig) es s = s
ascend_next (Forgotten orig) es s = s

-- the keys of the marks ascend
pub ascends : IsInKeyOrder
unfolding IsStrictlySortedBy
ascends [] = tt
ascends (call ∷ older) = ascend_next call (marks_by older) (ascends older)

released_is : (target : Mac) (byte : ℕ) (o : Option RoamingMark) → option_filter (λ m. not (is_ended target byte m)) o ≡ option_and_then (released target byte) o
released_is target byte None = refl
released_is target byte (Some m) = elim (is_ended target byte m) as (λ b. cond (not b) (Some m) None ≡ cond b None (Some m)) [
  | true ↦ refl
  | false ↦ refl
]

kept_next : (call : Call) (key : Key) (es : List (Key × RoamingMark)) → IsStrictlySortedBy key_order (keys_of es) → lookup (same_key key) (next_marks call es) ≡ next_mark call key (lookup (same_key key) es)
kept_next (Marked now k target told) key es s = found_inserted key_total key_exact key es k _
kept_next (Released target byte) key es s = found_filtered key_total key_exact (λ m. not (is_ended target byte m)) key es s ∙ released_is target byte (lookup (same_key key) es)
kept_next (Unmarked k) key es s = found_removed key_total key_exact key k es s
kept_next (Advised now k) key es s = refl
kept_next (Asked now orig) key es s = refl
kept_next (Forgotten orig) key es s = refl

-- a client's mark among all marks is the client's mark
pub marks_kept : HasTheMarkOfEachKey
marks_kept [] key = refl
marks_kept (call ∷ older) key = kept_next call key (marks_by older) (ascends older) ∙ ap (next_mark call key) (marks_kept older key)

-- ---- advertisements
older_too : (now s t : ℕ) → t ≤ s → nat_lt (now - s) 20000 ≡ false → nat_lt (now - t) 20000 ≡ false
older_too now s t le h = grind (arith, nat_tests)

none_young : (now s : ℕ) (sent : List ℕ) → nat_lt (now - s) 20000 ≡ false → AllByRecursion (λ t. t ≤ s) sent → young_sent now sent ≡ []
none_young now s [] h below = refl
none_young now s (t ∷ sent) h below = ap (λ b. cond b (t ∷ young_sent now sent) (young_sent now sent)) (older_too now s t below.0 h) ∙ none_young now s sent h below.1

no_item_young : (now s : ℕ) (sent : List ℕ) (i : ℕ) → nat_lt (now - s) 20000 ≡ false → AllByRecursion (λ t. t ≤ s) sent → option_and_then (if_young now) (slice_get sent i) ≡ None
no_item_young now s [] i h below = refl
no_item_young now s (t ∷ sent) zero h below = ap (λ b. cond b (Some t) None) (older_too now s t below.0 h)
no_item_young now s (t ∷ sent) (suc i) h below = no_item_young now s sent i h below.1

-- the item at a place, where it counts, is that of the items that count
pub nth_young : (now : ℕ) (sent : List ℕ) (i : ℕ) → Falls sent → option_and_then (if_young now) (slice_get sent i) ≡ slice_get (young_sent now sent) i
nth_young now [] i falls = refl
nth_young now (s ∷ sent) zero falls = elim (nat_lt (now - s) 20000) as (λ b. nat_lt (now - s) 20000 ≡ b → cond b (Some s) None ≡ slice_get (cond b (s ∷ young_sent now sent) (young_sent now sent)) 0) [
  | true ↦ λ h. refl
  | false ↦ λ h. sym (ap (λ xs. slice_get xs 0) (none_young now s sent h falls.0))
] refl
nth_young now (s ∷ sent) (suc i) falls = elim (nat_lt (now - s) 20000) as (λ b. nat_lt (now - s) 20000 ≡ b → option_and_then (if_young now) (slice_get sent i) ≡ slice_get (cond b (s ∷ young_sent now sent) (young_sent now sent)) (suc i)) [
  | true ↦ λ h. nth_young now sent i falls.1
  | false ↦ λ h. no_item_young now s sent i h falls.0 ∙ sym (ap (λ xs. slice_get xs (suc i)) (none_young now s sent h falls.0))
] refl
