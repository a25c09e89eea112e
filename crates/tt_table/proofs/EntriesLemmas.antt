-- What a place in entries in key order says of a key's flags, of the entry taken away and of the entry added.
use Rattle.std.proofs.Common.{◌≡◌, ℕ, zero, suc, Bool, true, false, cond, nat_eq, List, [], ◌∷◌, get_or, Option, Some, None, option_map, refl, sym, ap, ◌∙◌, arith, Less, Equal, Greater}
use Rattle.std.specs.List.{insert, remove}
use Rattle.std.specs.Ordering.{match_ordering}
use Rattle.std.proofs.lemmas.Bool.{eq-eqb, ne_eqb}
use Rattle.std.proofs.lemmas.Cmp.{tied_itself}
use Rattle.mesh_base.specs.KeyOrder.{key_order}
use Rattle.mesh_base.specs.declared.client.Entry.{Entry}
use Rattle.mesh_base.specs.declared.client.Key.{Key}
use Rattle.mesh_laws.proofs.PresentLemmas.{key_total, key_exact}
use Rattle.mesh_model.specs.Tables.Changes.{flags_at}
use Rattle.mesh_model.specs.Tables.Strict.{with_entry, without_entry}
use Rattle.tt_table.specs.Entries.{entry_key}
use Rattle.tt_table.specs.Places.{IsThere, IsGap}
use Rattle.tt_table.proofs.OrderedLists.{gap_next, item_there, none_in_gap, there_next, turned_greater, turned_less}

pub flags_there : (key : Key) (es : List Entry) (i : ℕ) (d : Entry) → IsThere key_order entry_key key es i → flags_at es key ≡ Some (get_or es i d).flags
flags_there key es i d there = ap (option_map (λ (e : Entry). e.flags)) (item_there key_total key_exact entry_key key es i d there)

pub no_flags : (key : Key) (es : List Entry) (i : ℕ) → IsGap key_order entry_key key es i → flags_at es key ≡ None
no_flags key es i gap = ap (option_map (λ (e : Entry). e.flags)) (none_in_gap key_total key_exact entry_key key es i gap)

-- how an entry and the first of a list go together
module _ (entry first : Entry) (rest : List Entry) where
  abbrev pub taken : Option (List Entry) → Option (List Entry)
  taken others = option_map (λ l. first ∷ l) others

  pub without_at : (r : _) → key_order entry.key first.key ≡ r
      → without_entry entry (first ∷ rest) ≡ match_ordering r None (cond (nat_eq entry.flags first.flags) (Some rest) None) (taken (without_entry entry rest))
  without_at r e = ap (λ q. match_ordering q None (cond (nat_eq entry.flags first.flags) (Some rest) None) (taken (without_entry entry rest))) e

  pub with_at : (r : _) → key_order entry.key first.key ≡ r
      → with_entry entry (first ∷ rest) ≡ match_ordering r (Some (entry ∷ first ∷ rest)) None (taken (with_entry entry rest))
  with_at r e = ap (λ q. match_ordering q (Some (entry ∷ first ∷ rest)) None (taken (with_entry entry rest))) e

-- an entry whose key stands at a place
pub without_there : (entry : Entry) (es : List Entry) (i : ℕ) (d : Entry) → IsThere key_order entry_key entry.key es i
    → without_entry entry es ≡ cond (nat_eq entry.flags (get_or es i d).flags) (Some (remove es i)) None
without_there entry [] i d there = absurd (let w = there.within in omega (arith, w))
without_there entry (first ∷ rest) zero d there =
    without_at entry first rest Equal (ap (key_order entry.key) (there.same first) ∙ tied_itself key_total entry.key)
without_there entry (first ∷ rest) (suc i) d there =
    without_at entry first rest Greater (turned_less key_total key_exact entry_key first.key entry.key (there.below 0 first (omega arith)))
    ∙ ap (taken entry first rest) (without_there entry rest i d (there_next key_total key_exact entry_key entry.key first rest i there))
    ∙ through (nat_eq entry.flags (get_or rest i d).flags)
  where
    through : (b : Bool) → taken entry first rest (cond b (Some (remove rest i)) None) ≡ cond b (Some (remove (first ∷ rest) (suc i))) None
    through true = refl
    through false = refl

pub with_there : (entry : Entry) (es : List Entry) (i : ℕ) → IsThere key_order entry_key entry.key es i → with_entry entry es ≡ None
with_there entry [] i there = absurd (let w = there.within in omega (arith, w))
with_there entry (first ∷ rest) zero there =
    with_at entry first rest Equal (ap (key_order entry.key) (there.same first) ∙ tied_itself key_total entry.key)
with_there entry (first ∷ rest) (suc i) there =
    with_at entry first rest Greater (turned_less key_total key_exact entry_key first.key entry.key (there.below 0 first (omega arith)))
    ∙ ap (taken entry first rest) (with_there entry rest i (there_next key_total key_exact entry_key entry.key first rest i there))

-- an entry whose key stands nowhere
pub without_in_gap : (entry : Entry) (es : List Entry) (i : ℕ) → IsGap key_order entry_key entry.key es i → without_entry entry es ≡ None
without_in_gap entry [] i gap = refl
without_in_gap entry (first ∷ rest) zero gap =
    without_at entry first rest Less (turned_greater key_total key_exact entry_key first.key entry.key (gap.above 0 first (omega arith) (omega arith)))
without_in_gap entry (first ∷ rest) (suc i) gap =
    without_at entry first rest Greater (turned_less key_total key_exact entry_key first.key entry.key (gap.below 0 first (omega arith)))
    ∙ ap (taken entry first rest) (without_in_gap entry rest i (gap_next key_total key_exact entry_key entry.key first rest i gap))

pub with_in_gap : (entry : Entry) (es : List Entry) (i : ℕ) → IsGap key_order entry_key entry.key es i → with_entry entry es ≡ Some (insert es i entry)
with_in_gap entry [] zero gap = refl
with_in_gap entry [] (suc i) gap = refl
with_in_gap entry (first ∷ rest) zero gap =
    with_at entry first rest Less (turned_greater key_total key_exact entry_key first.key entry.key (gap.above 0 first (omega arith) (omega arith)))
with_in_gap entry (first ∷ rest) (suc i) gap =
    with_at entry first rest Greater (turned_less key_total key_exact entry_key first.key entry.key (gap.below 0 first (omega arith)))
    ∙ ap (taken entry first rest) (with_in_gap entry rest i (gap_next key_total key_exact entry_key entry.key first rest i gap))

-- an entry whose key stands at a place, with its flags or with others
pub without_same : (entry found : Entry) (es : List Entry) (i : ℕ) → IsThere key_order entry_key entry.key es i → found ≡ get_or es i found → found.flags ≡ entry.flags
    → without_entry entry es ≡ Some (remove es i)
without_same entry found es i there is same =
    without_there entry es i found there
    ∙ ap (λ b. cond b (Some (remove es i)) None) (eq-eqb entry.flags (get_or es i found).flags (sym same ∙ ap (λ e. e.flags) is))

pub without_other : (entry found : Entry) (es : List Entry) (i : ℕ) → IsThere key_order entry_key entry.key es i → found ≡ get_or es i found → (found.flags ≡ entry.flags → ⊥)
    → without_entry entry es ≡ None
without_other entry found es i there is other =
    without_there entry es i found there
    ∙ ap (λ b. cond b (Some (remove es i)) None) (ne_eqb entry.flags (get_or es i found).flags (λ same. other (ap (λ e. e.flags) is ∙ sym same)))
