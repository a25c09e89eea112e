-- A part beside those that are gathered, and what becomes of them.
use Rattle.std.proofs.Common.{◌≡◌, ◌≢◌, ℕ, zero, suc, ◌+◌, ◌≤◌, nat_eq, Bool, true, false, cond, List, [], ◌∷◌, ◌++◌, length, filter, flat_map, Option, Some, None, IsSome, is_some, unwrap_or, refl, sym, ap, ◌∙◌, subst, arith, append_assoc}
use Rattle.std.proofs.lemmas.List.{append-nil}
use Rattle.std.specs.Borrow.{Bor}
use Rattle.std.specs.List.{range_with_len}
use Rattle.std.specs.Option.{option_or}
use Rattle.std.proofs.lemmas.Bool.{eq-eqb, eqb-true}
use Rattle.mesh_model.specs.declared.table_change.Change.{Change}
use Rattle.mesh_model.specs.Tables.Gathered.{Gathered, has_records, is_bad_part, none_gathered, of_count, records_at, with_first_copy, with_table_part}
use Rattle.mesh_model.specs.Tables.Judging.{InPart}
use Rattle.mesh_model.specs.Tables.Known.{gathered_after, gathered_from, matches_told, while_missing}
use Rattle.mesh_model.specs.Tables.Versions.{Stamp}
use Rattle.tt_global.specs.Kept.{GathersBy, gathered_in, parts_then, told_in}
use Rattle.tt_global.specs.Lent.{lent}
use Rattle.tt_global.specs.declared.judging.Parts.{Parts}
use Rattle.tt_global.specs.declared.judging.Parts.TheVariants as becomes
use Rattle.tt_global.specs.declared.known.KnownTable.{KnownTable}
use Rattle.mesh_laws.proofs.GatheredLemmas.{counted_with, found_beside}

-- what is found of a number, by what was there of it
pub at_beside : (q number count : ℕ) (records : List Change) (before : Gathered) (there : Option (List Change)) → there ≡ records_at q (of_count count before)
    → option_or there (cond (nat_eq q number) (Some records) None) ≡ records_at q (with_table_part number count records before)
at_beside q number count records before there is = ap (λ o. option_or o (cond (nat_eq q number) (Some records) None)) is ∙ sym (found_beside q number count records before)

pub not_same : (a b : ℕ) → (a ≡ b → ⊥) → nat_eq a b ≡ false
not_same a b differ = go (nat_eq a b) refl
  where
    go : (t : Bool) → nat_eq a b ≡ t → t ≡ false
    go true is = absurd (differ (eqb-true a b is))
    go false is = refl

-- a part of the same count is noted, of whose number none was there
pub noted : (number count : ℕ) (records copy : List Change) (before : Gathered) (new : List (ℕ × List Change)) → before.count ≡ count → records_at number before ≡ None → new ≡ before.got ++ (number, copy) ∷ [] → copy ≡ records
    → ◌≡◌ {A = Gathered} (record { count = before.count; got = new }) (with_table_part number count records before)
noted number count records copy before new same none is copied =
    let of : of_count count before ≡ before = ap (λ b. cond b before (record { count = count; got = [] })) (eq-eqb before.count count same) in
    ap (λ l. let g : Gathered = record { count = before.count; got = l } in g) (is ∙ ap (λ r. before.got ++ (number, r) ∷ []) copied)
    ∙ sym (ap (with_first_copy number records) of ∙ ap (λ o. cond (is_some o) before (record before { got = before.got ++ (number, records) ∷ [] })) none)

-- one number more
range_more : (a n : ℕ) → range_with_len a (suc n) ≡ range_with_len a n ++ (a + n) ∷ []
range_more a zero = let same : a ≡ a + 0 = omega arith in ap (λ x. x ∷ []) same
range_more a (suc n) = let same : (a + 1) + n ≡ a + suc n = omega arith in ap (λ l. a ∷ l) (range_more (a + 1) n ∙ ap (λ x. range_with_len (a + 1) n ++ x ∷ []) same)

flat_append : {X : Type 0} (f : ℕ → List X) (xs ys : List ℕ) → flat_map f (xs ++ ys) ≡ flat_map f xs ++ flat_map f ys
flat_append f [] ys = refl
flat_append f (x ∷ xs) ys = ap (λ l. f x ++ l) (flat_append f xs ys) ∙ sym (append_assoc (f x) (flat_map f xs) (flat_map f ys))

-- the records that are there of a number
abbrev records_of : Gathered → ℕ → List Change
records_of gathered n = unwrap_or (records_at n gathered) []

-- the records of one number more
pub records_more : (gathered : Gathered) (n : ℕ) → flat_map (λ m. unwrap_or (records_at m gathered) []) (range_with_len 0 (n + 1)) ≡ flat_map (λ m. unwrap_or (records_at m gathered) []) (range_with_len 0 n) ++ unwrap_or (records_at n gathered) []
records_more gathered n =
    let next : n + 1 ≡ suc n = omega arith in
    let same : 0 + n ≡ n = omega arith in
    ap (λ k. flat_map (records_of gathered) (range_with_len 0 k)) next ∙ ap (flat_map (records_of gathered)) (range_more 0 n) ∙ flat_append (records_of gathered) (range_with_len 0 n) ((0 + n) ∷ [])
    ∙ ap (λ l. flat_map (records_of gathered) (range_with_len 0 n) ++ l) (append-nil (records_of gathered (0 + n)) ∙ ap (records_of gathered) same)

filter_append : (p : ℕ → Bool) (xs : List ℕ) (y : ℕ) → length (filter p (xs ++ y ∷ [])) ≡ length (filter p xs) + cond (p y) 1 0
filter_append p [] y = go (p y)
  where
    go : (b : Bool) → length (cond b (y ∷ []) []) ≡ 0 + cond b 1 0
    go true = refl
    go false = refl
filter_append p (x ∷ xs) y = go (p x) (filter_append p xs y)
  where
    go : (b : Bool) → length (filter p (xs ++ y ∷ [])) ≡ length (filter p xs) + cond (p y) 1 0 → length (cond b (x ∷ filter p (xs ++ y ∷ [])) (filter p (xs ++ y ∷ []))) ≡ length (cond b (x ∷ filter p xs) (filter p xs)) + cond (p y) 1 0
    go true rest = omega (arith, rest)
    go false rest = rest

-- how many there are with one number more
pub have_more : (gathered : Gathered) (n have next : ℕ) (there : Bool) → have ≡ length (filter (λ m. has_records m gathered) (range_with_len 0 n)) → have ≤ n → has_records n gathered ≡ there → next ≡ have + cond there 1 0
    → (next ≡ length (filter (λ m. has_records m gathered) (range_with_len 0 (n + 1)))) × (next ≤ n + 1)
have_more gathered n have next there is few here next_is =
    let p : ℕ → Bool = λ m. has_records m gathered in
    let more : n + 1 ≡ suc n = omega arith in
    let same : 0 + n ≡ n = omega arith in (
      next_is ∙ ap (λ h. h + cond there 1 0) is ∙ ap (λ b. length (filter p (range_with_len 0 n)) + cond b 1 0) (sym here ∙ ap p (sym same))
          ∙ sym (ap (λ k. length (filter p (range_with_len 0 k))) more ∙ ap (λ l. length (filter p l)) (range_more 0 n) ∙ filter_append p (range_with_len 0 n) (0 + n)),
      at_most there next_is,
    )
  where
    at_most : (b : Bool) → next ≡ have + cond b 1 0 → next ≤ n + 1
    at_most true e = omega (arith, e, few)
    at_most false e = omega (arith, e, few)

-- parts of the count of the one that came are there with it
pub count_beside : (number count : ℕ) (records : List Change) (before after : Gathered) → with_table_part number count records before ≡ after → after.count ≡ count
count_beside number count records before after is = ap (λ (g : Gathered). g.count) (sym is) ∙ counted_with number count records before

-- what is lent is there where its value is
pub lent_there : {X : Type 0} (o : Option (Bor X)) → is_some (lent o) ≡ is_some o
lent_there None = refl
lent_there (Some x) = refl

-- what becomes of the parts where the part has what was announced, and a number that can be
pub gathers_by : (parts : Parts) (kept : Option KnownTable) (known : KnownTable) (stamp : Stamp) (number count : ℕ) (records : List Change) → kept ≡ Some known → matches_told (told_in kept) stamp ≡ true → is_bad_part number count ≡ false → parts ≢ becomes.Stay
    → ((before : Gathered) → parts_then parts before (with_table_part number count records known.gathered) ≡ while_missing (with_table_part number count records known.gathered))
    → GathersBy parts kept (with_table_part number count records (gathered_in kept)) (gathered_after (told_in kept) stamp (InPart number count records) (gathered_in kept))
gathers_by parts kept known stamp number count records is matches good another then = go parts another then
  where
    with_it : Gathered → Gathered
    with_it gathered = with_table_part number count records gathered

    after : gathered_after (told_in kept) stamp (InPart number count records) (gathered_in kept) ≡ while_missing (with_it (gathered_in kept))
    after =
        ap (λ b. cond b (gathered_from (InPart number count records) (gathered_in kept)) (gathered_in kept)) matches
        ∙ ap (λ b. cond b (gathered_in kept) (while_missing (with_it (gathered_in kept)))) good

    some : IsSome kept
    some = ap is_some is

    same : gathered_in kept ≡ known.gathered
    same = ap gathered_in is

    go : (p : Parts) → p ≢ becomes.Stay → ((before : Gathered) → parts_then p before (with_it known.gathered) ≡ while_missing (with_it known.gathered))
        → GathersBy p kept (with_it (gathered_in kept)) (gathered_after (told_in kept) stamp (InPart number count records) (gathered_in kept))
    go becomes.Stay other e = absurd (other refl)
    go becomes.Grow other e = (some, after ∙ subst (λ g. while_missing (with_it g) ≡ with_it g) (sym same) (sym (e none_gathered)))
    go becomes.End other e = (some, after ∙ subst (λ g. while_missing (with_it g) ≡ none_gathered) (sym same) (sym (e none_gathered)))
