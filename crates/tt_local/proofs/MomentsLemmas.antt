-- What the moments of sightings rest on: their order, one more and one less of them, and those whose sightings count no longer.
use Rattle.std.proofs.Common.{◌≡◌, ℕ, ◌-◌, ◌≤◌, ◌&&◌, ◌||◌, ◌==◌, nat_lt, Bool, true, false, not, cond, List, [], ◌∷◌, map, Option, Some, None, option_and_then, option_map, refl, sym, ap, ap₂, subst, ◌∙◌, eqb, is_eq, Ordering, Less, Equal, Greater, arith}
use Rattle.std.specs.List.{AllByRecursion, take_while}
use Rattle.std.specs.List.Sorted.{IsStrictlySortedBy}
use Rattle.std.specs.Option.{option_eq}
use Rattle.std.specs.Result.{IsOk, OnErr}
use Rattle.std.specs.declared.result.Result.{Result}
use Rattle.std.specs.declared.result.Result.TheVariants.{Err, Ok}
use Rattle.std.specs.Ordering.{nat_cmp, ordering_then}
use Rattle.std.proofs.lemmas.Bool.{false≢true, and_parts}
use Rattle.std.proofs.lemmas.Bool.Decides.{nat_tests}
use Rattle.std.proofs.lemmas.List.Sums.{take_while-cons}
use Rattle.mesh_base.specs.KeyOrder.{key_order}
use Rattle.mesh_base.specs.declared.client.Key.{Key}
use Rattle.mesh_model.specs.Clients.Mentions.{Sighted}
use Rattle.mesh_model.specs.Clients.Present.{same_key, sighting_age}
use Rattle.mesh_laws.proofs.PresentLemmas.{equal_from_same}
use Rattle.tt_local.specs.Clients.{AreInOrder, client_at, HasClient, HasNews, known_client, with_sighting}
use Rattle.tt_local.specs.Moments.{AreMoments, has_moment, HasMoved, is_aged_moment, is_moment, moment_at, moment_of, seen_order}
use Rattle.tt_local.specs.Roster.{has_key, is_aged, is_aged_sighting}
use Rattle.tt_local.specs.declared.client.Client.{Client}
use Rattle.tt_local.specs.declared.moments.Seen.{Seen}
use Rattle.tt_local.specs.declared.sighting.Sighting.{Sighting}
use Rattle.tt_local.proofs.ClientsLemmas.{none_in_order}
use Rattle.tt_local.proofs.OrderedMapLemmas.{chosen_or}

same_number : (m n : ℕ) (r : Ordering) → is_eq (ordering_then (nat_cmp m n) r) ≡ (m == n && is_eq r)
same_number m n r = go (nat_lt m n) (m == n) refl refl
  where
    go : (l e : Bool) → nat_lt m n ≡ l → (m == n) ≡ e → is_eq (ordering_then (cond l Less (cond e Equal Greater)) r) ≡ (e && is_eq r)
    go true true low same = absurd (grind (arith, nat_tests, low, same))
    go true false low same = refl
    go false true low same = refl
    go false false low same = refl

-- whether two sightings are one
same_seen : (a b : Seen) → is_eq (seen_order a b) ≡ (a.moment == b.moment && same_key a.key b.key)
same_seen a b = same_number a.moment b.moment (key_order a.key b.key)

-- the moments with one more
pub added_moment : (moment : ℕ) (key : Key) (old new : List Seen)
    → ((s : Seen) → has_moment new s.moment s.key ≡ cond (is_eq (seen_order (record { moment = moment; key = key }) s)) true (has_moment old s.moment s.key))
    → (at : ℕ) (other : Key) → has_moment new at other ≡ ((moment == at && same_key key other) || has_moment old at other)
added_moment moment key old new updates at other = updates (record { moment = at; key = other })
    ∙ ap (λ b. cond b true (has_moment old at other)) (same_seen (record { moment = moment; key = key }) (record { moment = at; key = other }))
    ∙ chosen_or (moment == at && same_key key other) (has_moment old at other)

without : (b c : Bool) → cond b false c ≡ (not b && c)
without true c = refl
without false c = refl

-- the moments with one less
pub removed_moment : (moment : ℕ) (key : Key) (old new : List Seen)
    → ((s : Seen) → has_moment new s.moment s.key ≡ cond (is_eq (seen_order (record { moment = moment; key = key }) s)) false (has_moment old s.moment s.key))
    → (at : ℕ) (other : Key) → has_moment new at other ≡ (not (moment == at && same_key key other) && has_moment old at other)
removed_moment moment key old new updates at other = updates (record { moment = at; key = other })
    ∙ ap (λ b. cond b false (has_moment old at other)) (same_seen (record { moment = moment; key = key }) (record { moment = at; key = other }))
    ∙ without (moment == at && same_key key other) (has_moment old at other)

-- a key keeps the moment that it has, or none
pub not_moved : (key : Key) (moment : Option ℕ) (seen : List Seen) → ((at : ℕ) → has_moment seen at key ≡ is_moment at moment) → HasMoved key moment seen seen
not_moved key moment seen before at other = go (same_key key other) refl
  where
    go : (b : Bool) → same_key key other ≡ b → has_moment seen at other ≡ cond b (is_moment at moment) (has_moment seen at other)
    go true t = ap (has_moment seen at) (sym (equal_from_same key other t)) ∙ before at
    go false t = refl

and_none : (b : Bool) → (b && false) ≡ false
and_none true = refl
and_none false = refl

and_all : (b : Bool) → (b && true) ≡ b
and_all true = refl
and_all false = refl

not_both : (b : Bool) → (not b && b) ≡ false
not_both true = refl
not_both false = refl

-- a moment is another where they test the same
pub is_other : (o : Option ℕ) (now : ℕ) → option_eq eqb o (Some now) ≡ true → o ≡ Some now
is_other None now same = absurd (false≢true same)
is_other (Some moment) now same = ap Some (grind (arith, nat_tests, same))

pub differs_from : (o : Option ℕ) (moment now : ℕ) → option_eq eqb o (Some now) ≡ false → o ≡ Some moment → moment ≡ now → ⊥
differs_from o moment now differs is same =
    let apart : eqb moment now ≡ false = sym (ap (λ p. option_eq eqb p (Some now)) is) ∙ differs in
    grind (arith, nat_tests, apart, same)

-- a key has its first moment
pub first_moment : (key : Key) (now : ℕ) (old new : List Seen) → ((at : ℕ) → has_moment old at key ≡ false)
    → ((at : ℕ) (other : Key) → has_moment new at other ≡ ((now == at && same_key key other) || has_moment old at other))
    → HasMoved key (Some now) old new
first_moment key now old new none added at other = added at other ∙ go (same_key key other) refl
  where
    go : (b : Bool) → same_key key other ≡ b → ((now == at && b) || has_moment old at other) ≡ cond b (now == at) (has_moment old at other)
    go true t =
        ap₂ (λ x y. x || y) (and_all (now == at)) (ap (has_moment old at) (sym (equal_from_same key other t)) ∙ none at)
        ∙ none_or (now == at)
      where
        none_or : (x : Bool) → (x || false) ≡ x
        none_or true = refl
        none_or false = refl
    go false t = ap (λ x. x || has_moment old at other) (and_none (now == at))

one_of_two : (m n at : ℕ) → (m ≡ n → ⊥) → (not (m == at) && ((n == at) || (m == at))) ≡ (n == at)
one_of_two m n at apart = go (m == at) (n == at) refl refl
  where
    go : (x y : Bool) → (m == at) ≡ x → (n == at) ≡ y → (not x && (y || x)) ≡ y
    go true true e f = absurd (apart (grind (arith, nat_tests, e, f)))
    go true false e f = refl
    go false true e f = refl
    go false false e f = refl

-- a key has another moment
pub next_moment : (key : Key) (before now : ℕ) (old mid new : List Seen) → (before ≡ now → ⊥) → ((at : ℕ) → has_moment old at key ≡ (before == at))
    → ((at : ℕ) (other : Key) → has_moment mid at other ≡ ((now == at && same_key key other) || has_moment old at other))
    → ((at : ℕ) (other : Key) → has_moment new at other ≡ (not (before == at && same_key key other) && has_moment mid at other))
    → HasMoved key (Some now) old new
next_moment key before now old mid new apart was added removed at other =
    removed at other ∙ ap (λ b. not (before == at && same_key key other) && b) (added at other) ∙ go (same_key key other) refl
  where
    go : (b : Bool) → same_key key other ≡ b → (not (before == at && b) && ((now == at && b) || has_moment old at other)) ≡ cond b (now == at) (has_moment old at other)
    go true t =
        ap₂ (λ x y. not x && y) (and_all (before == at)) (ap₂ (λ x y. x || y) (and_all (now == at)) (ap (has_moment old at) (sym (equal_from_same key other t)) ∙ was at))
        ∙ one_of_two before now at apart
    go false t = ap₂ (λ x y. not x && (y || has_moment old at other)) (and_none (before == at)) (and_none (now == at))

-- a key has no moment any more
pub no_moment : (key : Key) (before : ℕ) (old new : List Seen) → ((at : ℕ) → has_moment old at key ≡ (before == at))
    → ((at : ℕ) (other : Key) → has_moment new at other ≡ (not (before == at && same_key key other) && has_moment old at other))
    → HasMoved key None old new
no_moment key before old new was removed at other = removed at other ∙ go (same_key key other) refl
  where
    go : (b : Bool) → same_key key other ≡ b → (not (before == at && b) && has_moment old at other) ≡ cond b false (has_moment old at other)
    go true t =
        ap₂ (λ x y. not x && y) (and_all (before == at)) (ap (has_moment old at) (sym (equal_from_same key other t)) ∙ was at)
        ∙ not_both (before == at)
    go false t = ap (λ x. not x && has_moment old at other) (and_none (before == at))

-- ---- the moments whose sightings count no longer
not_after : (m n : ℕ) (r : Ordering) → ordering_then (nat_cmp m n) r ≡ Less → m ≤ n
not_after m n r less = go (nat_lt m n) (m == n) refl refl less
  where
    go : (l e : Bool) → nat_lt m n ≡ l → (m == n) ≡ e → ordering_then (cond l Less (cond e Equal Greater)) r ≡ Less → m ≤ n
    go true e low same h = grind (arith, nat_tests, low)
    go false true low same h = grind (arith, nat_tests, same)
    go false false low same h = absurd (apart (sym h))
      where
        apart : Less ≡ Greater → ⊥
        apart p = cc

-- what comes before all of some sightings isn't after the moment of one of them
above_moment : (s : Seen) (seen : List Seen) (at : ℕ) (key : Key) → AllByRecursion (λ other. seen_order s other ≡ Less) seen → has_moment seen at key ≡ true → s.moment ≤ at
above_moment s [] at key below has = absurd (false≢true has)
above_moment s (x ∷ xs) at key below has = go (is_eq (seen_order (record { moment = at; key = key }) x)) refl has (above_moment s xs at key below.1)
  where
    go : (b : Bool) → is_eq (seen_order (record { moment = at; key = key }) x) ≡ b → (b || has_moment xs at key) ≡ true → (has_moment xs at key ≡ true → s.moment ≤ at) → s.moment ≤ at
    go true t h rest =
        let same = (and_parts (at == x.moment) (same_key key x.key) (sym (same_seen (record { moment = at; key = key }) x) ∙ t)).0 in
        let low = not_after s.moment x.moment (key_order s.key x.key) below.0 in
        grind (arith, nat_tests, same, low)
    go false t h rest = rest h

older_aged : (now at moment : ℕ) → moment ≤ at → is_aged_moment now at ≡ true → is_aged_moment now moment ≡ true
older_aged now at moment older aged = go (nat_lt (now - at) sighting_age) (nat_lt (now - moment) sighting_age) refl refl aged
  where
    go : (a b : Bool) → nat_lt (now - at) sighting_age ≡ a → nat_lt (now - moment) sighting_age ≡ b → not a ≡ true → not b ≡ true
    go a false p q h = refl
    go true true p q h = absurd (false≢true h)
    go false true p q h = absurd (grind (arith, nat_tests, p, q, older))

-- the keys of the first sightings that count no longer
abbrev pub aged_keys : ℕ → List Seen → List Key
aged_keys now seen = map (λ s. s.key) (take_while (λ s. is_aged_moment now s.moment) seen)

-- a key whose moment is aged is among them
pub aged_found : (now : ℕ) (seen : List Seen) → IsStrictlySortedBy seen_order seen → (at : ℕ) (key : Key) → has_moment seen at key ≡ true → is_aged_moment now at ≡ true → has_key (aged_keys now seen) key ≡ true
unfolding IsStrictlySortedBy
aged_found now [] sorted at key has aged = absurd (false≢true has)
aged_found now (s ∷ ss) sorted at key has aged =
    ap (λ xs. has_key (map (λ (x : Seen). x.key) xs) key) (take_while-cons (λ (x : Seen). is_aged_moment now x.moment) s ss)
    ∙ go (is_eq (seen_order (record { moment = at; key = key }) s)) refl has (λ later. aged_found now ss sorted.1 at key later aged)
  where
    firsts : List Seen
    firsts = take_while (λ x. is_aged_moment now x.moment) ss

    here : is_aged_moment now s.moment ≡ true → has_key (map (λ (x : Seen). x.key) (cond (is_aged_moment now s.moment) (s ∷ firsts) [])) key ≡ (same_key key s.key || has_key (aged_keys now ss) key)
    here old = ap (λ b. has_key (map (λ (x : Seen). x.key) (cond b (s ∷ firsts) [])) key) old

    or_true : (b : Bool) → (b || true) ≡ true
    or_true true = refl
    or_true false = refl

    go : (b : Bool) → is_eq (seen_order (record { moment = at; key = key }) s) ≡ b → (b || has_moment ss at key) ≡ true → (has_moment ss at key ≡ true → has_key (aged_keys now ss) key ≡ true) → has_key (map (λ (x : Seen). x.key) (cond (is_aged_moment now s.moment) (s ∷ firsts) [])) key ≡ true
    go true t h rest =
        let same = and_parts (at == s.moment) (same_key key s.key) (sym (same_seen (record { moment = at; key = key }) s) ∙ t) in
        let low : s.moment ≤ at = let e = same.0 in grind (arith, nat_tests, e) in
        here (older_aged now at s.moment low aged) ∙ ap (λ b. b || has_key (aged_keys now ss) key) same.1
    go false t h rest =
        here (older_aged now at s.moment (above_moment s ss at key sorted.0 h) aged)
        ∙ ap (λ b. same_key key s.key || b) (rest h)
        ∙ or_true (same_key key s.key)

-- ---- the moments of clients
pub known_moment : (o : Option Client) → option_and_then moment_of o ≡ moment_of (known_client o)
known_moment None = refl
known_moment (Some client) = refl

-- moments are those of clients after one became another, or none
pub moments_after : (old new : List (Key × Client)) (seen after : List Seen) (key : Key) (client : Option Client) (moment : Option ℕ)
    → AreMoments old seen → HasClient key client old new → AreInOrder new → option_and_then moment_of client ≡ moment → HasMoved key moment seen after → AreMoments new after
moments_after old new seen after key client moment are has ordered is moved = record {
  ordered = ordered;
  moments = λ at q. moved at q ∙ go at q (same_key key q) refl ∙ sym (ap (λ o. is_moment at (option_and_then moment_of o)) (has q));
}
  where
    go : (at : ℕ) (q : Key) (b : Bool) → same_key key q ≡ b → cond b (is_moment at moment) (has_moment seen at q) ≡ is_moment at (option_and_then moment_of (cond b client (client_at old q)))
    go at q true t = ap (is_moment at) (sym is)
    go at q false t = are.moments at q

-- moments stay those of clients where one became another of the same moment
pub moments_kept : (old new : List (Key × Client)) (seen : List Seen) (key : Key) (client : Option Client)
    → AreMoments old seen → HasClient key client old new → AreInOrder new → moment_at old key ≡ option_and_then moment_of client → AreMoments new seen
moments_kept old new seen key client are has ordered same =
    moments_after old new seen seen key client (moment_at old key) are has ordered (sym same)
    (not_moved key (moment_at old key) seen (λ at. are.moments at key))

-- a key that has no client has no moment again, once one was noted and forgotten
pub moment_undone : (clients : List (Key × Client)) (seen mid after : List Seen) (key : Key) (now : ℕ) → AreMoments clients seen → client_at clients key ≡ None → HasMoved key (Some now) seen mid → HasMoved key None mid after → AreMoments clients after
moment_undone clients seen mid after key now are absent noted forgotten = record {
  ordered = are.ordered;
  moments = λ at q. forgotten at q ∙ go at q (same_key key q) refl;
}
  where
    go : (at : ℕ) (q : Key) (b : Bool) → same_key key q ≡ b → cond b false (has_moment mid at q) ≡ is_moment at (moment_at clients q)
    go at q true t = sym (ap (λ o. is_moment at (option_and_then moment_of o)) (subst (λ k. client_at clients k ≡ None) (equal_from_same key q t) absent))
    go at q false t = noted at q ∙ ap (λ b. cond b (is_moment at (Some now)) (has_moment seen at q)) t ∙ are.moments at q

same_itself : (n : ℕ) → (n == n) ≡ true
same_itself n = grind (arith, nat_tests)

-- no clients have no moments
pub none_of_none : (clients : List (Key × Client)) (seen : List Seen) → clients ≡ [] → seen ≡ [] → AreMoments clients seen
none_of_none clients seen none empty = record {
  ordered = subst AreInOrder (sym none) none_in_order;
  moments = λ at key. ap (λ s. has_moment s at key) empty ∙ sym (ap (λ cs. is_moment at (moment_at cs key)) none);
}

-- keys with all that have aged moments have those of all clients that are aged
pub aged_clients : (now : ℕ) (clients : List (Key × Client)) (seen : List Seen) (keys : List Key) → AreMoments clients seen
    → ((at : ℕ) (key : Key) → has_moment seen at key ≡ true → is_aged_moment now at ≡ true → has_key keys key ≡ true)
    → (key : Key) (client : Client) → client_at clients key ≡ Some client → is_aged now client ≡ true → has_key keys key ≡ true
aged_clients now clients seen keys are found key client is aged = go client.sighting (are_at client.sighting refl) aged
  where
    are_at : (o : Option Sighting) → client.sighting ≡ o → (at : ℕ) → has_moment seen at key ≡ is_moment at (option_map (λ (s : Sighting). s.moment) o)
    are_at o e at = are.moments at key ∙ ap (λ p. is_moment at (option_and_then moment_of p)) is ∙ ap (λ p. is_moment at (option_map (λ (s : Sighting). s.moment) p)) e

    go : (o : Option Sighting) → ((at : ℕ) → has_moment seen at key ≡ is_moment at (option_map (λ (s : Sighting). s.moment) o)) → is_aged_sighting now o ≡ true → has_key keys key ≡ true
    go None at h = absurd (false≢true h)
    go (Some s) at h = found s.moment key (at s.moment ∙ same_itself s.moment) h

-- a call that fails only where something doesn't hold succeeds where it holds
pub ok_where_known : {A E : Type 0} (r : Result A E) (P : Type 0) → OnErr r P → (P → ⊥) → IsOk r
ok_where_known (Ok x) P fails known = refl
ok_where_known (Err e) P fails known = absurd (known fails)

-- a client that is sighted is what it is after news of that
pub sighted_news : (now : ℕ) (key : Key) (flags : ℕ) (clients base new : List (Key × Client)) (known : Client)
    → base ≡ clients → known ≡ known_client (client_at clients key)
    → HasClient key (Some (with_sighting (Some (record { flags = flags; moment = now })) known)) base new
    → HasNews now key (Sighted flags) clients new
sighted_news now key flags clients base new known same is has =
    subst (λ client. HasClient key (Some (with_sighting (Some (record { flags = flags; moment = now })) client)) clients new) is
    (subst (λ cs. HasClient key (Some (with_sighting (Some (record { flags = flags; moment = now })) known)) cs new) same has)
