-- What a node's clients and pending keys rest on.
use Rattle.std.proofs.Common.{◌≡◌, ℕ, ◌-◌, nat_lt, take, slice_get, get_or, is_none, is_some, option_map, option_and_then, MatchOption, ◌+◌, ◌≤◌, ◌<◌, Bool, true, false, not, cond, ◌||◌, List, [], ◌∷◌, length, Option, Some, None, IsSome, refl, sym, ap, subst, ◌∙◌, arith}
use Rattle.std.specs.List.Sorted.{IsStrictlySortedBy}
use Rattle.std.specs.List.{AllByRecursion}
use Rattle.std.proofs.lemmas.List.{take_all, take_more}
use Rattle.std.proofs.lemmas.List.Folds.{list_any-append}
use Rattle.std.proofs.lemmas.Option.{get_or_from_slice_get}
use Rattle.std.proofs.lemmas.Bool.{false≢true, true≢false}
use Rattle.mesh_base.specs.declared.client.Key.{Key}
use Rattle.mesh_model.specs.declared.table_row.LocalRow.{LocalRow}
use Rattle.mesh_model.specs.Clients.Present.{same_key, sighting_age, entry_with}
use Rattle.mesh_laws.proofs.PresentLemmas.{equal_from_same, same_itself}
use Rattle.std.proofs.lemmas.Cmp.{eq_by_cmp_equiv}
use Rattle.std.proofs.lemmas.Map.Steps.{length-le_from_keys}
use Rattle.mesh_laws.proofs.PresentLemmas.{key_total}
use Rattle.tt_local.specs.Roster.{AreSorted, has_key, PendingView, RosterView, Fits, Tracks, counting, IsSettled, IsTracked, settled_client, is_aged, is_aged_sighting, kept_flags, present_flags, IsRenewed}
use Rattle.tt_local.specs.declared.sighting.Sighting.{Sighting}
use Rattle.tt_local.specs.Clients.{client_at, client_after, client_row, sighting_row, with_sighting, HasClient, HasNews}
use Rattle.mesh_model.specs.Clients.Mentions.{News}
use Rattle.mesh_base.specs.KeyOrder.{key_order}
use Rattle.mesh_base.specs.declared.client.Entry.{Entry}
use Rattle.tt_local.proofs.ClientsLemmas.{among_after, swapped as same_swapped}
use Rattle.std.proofs.lemmas.Map.Keys.{IsDistinct-from_sorted}
use Rattle.std.specs.List.{IsDistinct}
use Rattle.tt_local.specs.declared.client.Client.{Client}

-- no keys are sorted
pub none_sorted : AreSorted []
unfolding IsStrictlySortedBy
none_sorted = tt

-- keys with one that is among them are the same
pub known_added : (keys : List Key) (key : Key) → has_key keys key ≡ true → (q : Key) → has_key keys q ≡ (same_key key q || has_key keys q)
known_added keys key there q = go (same_key key q) refl
  where
    go : (b : Bool) → same_key key q ≡ b → has_key keys q ≡ (b || has_key keys q)
    go true t = subst (λ k. has_key keys k ≡ true) (equal_from_same key q t) there
    go false t = refl

-- one more key, where it was absent
pub one_longer : (n : ℕ) {m : ℕ} {was : Bool} (is_new : Bool) → is_new ≡ not was → was ≡ false → m ≡ n + cond is_new 1 0 → m ≡ n + 1
one_longer n is_new new absent longer = longer ∙ ap (λ b. n + cond b 1 0) (new ∙ ap not absent)

none_among : (key : Key) (keys : List Key) → has_key keys key ≡ false → AllByRecursion (λ y. same_key key y ≡ false) keys
none_among key [] absent = tt
none_among key (k ∷ ks) absent = go (same_key key k) refl absent (none_among key ks)
  where
    go : (b : Bool) → same_key key k ≡ b → (b || has_key ks key) ≡ false → (has_key ks key ≡ false → AllByRecursion (λ y. same_key key y ≡ false) ks) → AllByRecursion (λ y. same_key key y ≡ false) (k ∷ ks)
    go true t h rest = absurd (true≢false h)
    go false t h rest = (t, rest h)

-- where a client's key isn't pending, there is room for it
pub room_for : (clients : List (Key × Client)) (pending : PendingView) (key : Key) → Fits clients pending → AreSorted pending.keys → IsSome (client_at clients key) → has_key pending.keys key ≡ false → length pending.keys < pending.room
unfolding IsDistinct
room_for clients pending key fits sorted there absent =
    let few = length-le_from_keys (eq_by_cmp_equiv key_total) (key ∷ pending.keys) clients (none_among key pending.keys absent, IsDistinct-from_sorted key_order pending.keys sorted) (λ q among. go q (same_key q key) refl among) in
    let room = fits.room in
    omega (arith, few, room)
  where
    go : (q : Key) (b : Bool) → same_key q key ≡ b → (b || has_key pending.keys q) ≡ true → IsSome (client_at clients q)
    go q true t among = subst (λ k. IsSome (client_at clients k)) (sym (equal_from_same q key t)) there
    go q false t among = fits.among q among

-- pending keys fit with one more that is a client's
pub touched_fits : (clients : List (Key × Client)) (pending after : PendingView) (key : Key) → Fits clients pending → IsSome (client_at clients key) → ((q : Key) → has_key after.keys q ≡ (same_key key q || has_key pending.keys q)) → pending.room ≤ after.room → Fits clients after
touched_fits clients pending after key fits there added grown = record {
  among = λ q among. go q (same_key key q) refl (sym (added q) ∙ among);
  room = let room = fits.room in omega (arith, room, grown);
}
  where
    go : (q : Key) (b : Bool) → same_key key q ≡ b → (b || has_key pending.keys q) ≡ true → IsSome (client_at clients q)
    go q true t among = subst (λ k. IsSome (client_at clients k)) (equal_from_same key q t) there
    go q false t among = fits.among q among

-- pending keys fit after news
pub fits_after : (clients after : List (Key × Client)) (pending : PendingView) (at : ℕ) (key : Key) (news : News) → Fits clients pending → HasNews at key news clients after → length after ≤ pending.room → Fits after pending
fits_after clients after pending at key news fits has room = record {
  among = λ q there. among_after clients after at key news has q (fits.among q there);
  room = room;
}

-- a key that isn't pending after one was touched
pub touched_tracks : (key : Key) (old new : RosterView) → new.clients ≡ old.clients → ((q : Key) → has_key new.pending q ≡ (same_key key q || has_key old.pending q)) → Tracks old new
touched_tracks key old new same added q absent = (go (same_key key q) (sym (added q) ∙ absent), ap (λ cs. client_at cs q) same)
  where
    go : (b : Bool) → (b || has_key old.pending q) ≡ false → has_key old.pending q ≡ false
    go true h = absurd (true≢false h)
    go false h = h

-- news of a key that is then touched are tracked
pub news_tracked : (old new : RosterView) (mid : List (Key × Client)) (at : ℕ) (key : Key) (news : News)
    → HasNews at key news old.clients mid
    → ((q : Key) → has_key new.pending q ≡ false → (has_key old.pending q ≡ false) × (client_at new.clients q ≡ client_at mid q))
    → (IsSome (client_at mid key) → has_key new.pending key ≡ true) → Tracks old new
news_tracked old new mid at key news has tracks touched q absent =
    let before = tracks q absent in
    (before.0, before.1 ∙ go (same_key key q) refl)
  where
    gone : (o p : Option Client) → (IsSome o → ⊥) → (IsSome p → IsSome o) → o ≡ p
    gone None None none some = refl
    gone None (Some client) none some = absurd (none (some refl))
    gone (Some client) p none some = absurd (none refl)

    go : (b : Bool) → same_key key q ≡ b → client_at mid q ≡ client_at old.clients q
    go true t =
        let is : key ≡ q = equal_from_same key q t in
        gone (client_at mid q) (client_at old.clients q)
        (λ there. true≢false (sym (touched (subst (λ k. IsSome (client_at mid k)) (sym is) there)) ∙ ap (has_key new.pending) is ∙ absent))
        (among_after old.clients mid at key news has q)
    go false t = has q ∙ ap (λ b. cond b (client_after at news (client_at old.clients key)) (client_at old.clients q)) t

or_true : (b : Bool) → (b || true) ≡ true
or_true true = refl
or_true false = refl

or_false : (b : Bool) → (b || false) ≡ b
or_false true = refl
or_false false = refl

-- whether a key is among the first keys, one more of them
pub has_taken : (q : Key) (keys : List Key) (i : ℕ) (key : Key) → i < length keys → slice_get keys i ≡ Some key → has_key (take (i + 1) keys) q ≡ (has_key (take i keys) q || same_key q key)
has_taken q keys i key within is =
    ap (λ ks. has_key ks q) (take_more keys i key within)
    ∙ list_any-append (same_key q) (take i keys) (get_or keys i key ∷ [])
    ∙ ap (λ k. has_key (take i keys) q || (same_key q k || false)) (get_or_from_slice_get keys i key key is)
    ∙ ap (λ b. has_key (take i keys) q || b) (or_false (same_key q key))

-- ---- what is settled
aged_absent : (now : ℕ) (key : Key) (o : Option Sighting) → is_none (option_and_then (sighting_row now key) o) ≡ false → is_aged_sighting now o ≡ true → ⊥
aged_absent now key None there aged = true≢false there
aged_absent now key (Some s) there aged = go (nat_lt (now - s.moment) sighting_age) there aged
  where
    go : (b : Bool) → is_none {T = LocalRow} (cond b (Some (record { entry = entry_with key s.flags; age = Some (now - s.moment) })) None) ≡ false → not b ≡ true → ⊥
    go true h a = false≢true a
    go false h a = true≢false h

again_by : (now : ℕ) (key : Key) (o : Option Sighting) (joined absent aged : Bool)
    → is_none (client_row now key (record { sighting = o; joined = joined })) ≡ absent → is_aged_sighting now o ≡ aged
    → settled_client now key (settled_client now key (Some (record { sighting = o; joined = joined }))) ≡ settled_client now key (Some (record { sighting = o; joined = joined }))
again_by now key o joined true aged e f =
    let none : settled_client now key (Some (record { sighting = o; joined = joined })) ≡ None =
    ap (λ b. cond b None (Some (counting now (record { sighting = o; joined = joined })))) e in
    ap (settled_client now key) none ∙ sym none
again_by now key o joined false false e f =
    let same : settled_client now key (Some (record { sighting = o; joined = joined })) ≡ Some (record { sighting = o; joined = joined }) =
    ap (λ b. cond b None (Some (counting now (record { sighting = o; joined = joined })))) e
    ∙ ap (λ b. Some (cond b (record { sighting = None; joined = joined }) (record { sighting = o; joined = joined }))) f in
    ap (settled_client now key) same
again_by now key o true false true e f =
    let group : settled_client now key (Some (record { sighting = o; joined = true })) ≡ Some (record { sighting = None; joined = true }) =
    ap (λ b. Some (cond b (record { sighting = None; joined = true }) (record { sighting = o; joined = true }))) f in
    ap (settled_client now key) group ∙ sym group
again_by now key o false false true e f = absurd (aged_absent now key o e f)

-- what is settled is settled no further
settled_again : (now : ℕ) (key : Key) (o : Option Client) → settled_client now key (settled_client now key o) ≡ settled_client now key o
settled_again now key None = refl
settled_again now key (Some client) = again_by now key client.sighting client.joined (is_none (client_row now key client)) (is_aged now client) refl refl

-- one more key is settled
pub settled_more : (now : ℕ) (keys : List Key) (i : ℕ) (key : Key) (old mid new : List (Key × Client)) → i < length keys → slice_get keys i ≡ Some key → IsSettled now (take i keys) old mid → HasClient key (settled_client now key (client_at mid key)) mid new → IsSettled now (take (i + 1) keys) old new
settled_more now keys i key old mid new within is settled has q =
    go (same_key key q) refl (has_key (take i keys) q) (has_taken q keys i key within is) (has q) (settled q)
  where
    merge : (h : Bool) (o : Option Client) → settled_client now q (cond h (settled_client now q o) o) ≡ settled_client now q o
    merge true o = settled_again now q o
    merge false o = refl

    go : (b : Bool) → same_key key q ≡ b → (h : Bool) → has_key (take (i + 1) keys) q ≡ (h || same_key q key) → client_at new q ≡ cond b (settled_client now key (client_at mid key)) (client_at mid q) → client_at mid q ≡ cond h (settled_client now q (client_at old q)) (client_at old q) → client_at new q ≡ cond (has_key (take (i + 1) keys) q) (settled_client now q (client_at old q)) (client_at old q)
    go true t h more became was =
        became
        ∙ ap (λ k. settled_client now k (client_at mid k)) (equal_from_same key q t)
        ∙ ap (settled_client now q) was
        ∙ merge h (client_at old q)
        ∙ sym (ap (λ b. cond b (settled_client now q (client_at old q)) (client_at old q)) (more ∙ ap (λ b. h || b) (same_swapped q key ∙ t) ∙ or_true h))
    go false t h more became was =
        became ∙ was
        ∙ sym (ap (λ b. cond b (settled_client now q (client_at old q)) (client_at old q)) (more ∙ ap (λ b. h || b) (same_swapped q key ∙ t) ∙ or_false h))

-- a client that is present and whose sighting counts stays, and so does none
pub settles_same : (now : ℕ) (key : Key) (o : Option Client) (client : Client) → o ≡ Some client → is_none (client_row now key client) ≡ false → is_aged now client ≡ false → o ≡ settled_client now key o
settles_same now key o client is there counts =
    is ∙ sym (ap (settled_client now key) is ∙ ap (λ b. cond b None (Some (counting now client))) there ∙ ap (λ b. Some (cond b (with_sighting None client) client)) counts)

pub settles_unknown : (now : ℕ) (key : Key) (o : Option Client) → o ≡ None → o ≡ settled_client now key o
settles_unknown now key o is = is ∙ sym (ap (settled_client now key) is)

-- ---- what is renewed
counting_flags : (now : ℕ) (key : Key) (o : Option Sighting) → is_aged_sighting now o ≡ false → option_map (λ (row : LocalRow). row.entry.flags) (option_and_then (sighting_row now key) o) ≡ option_map (λ sighting. sighting.flags) o
counting_flags now key None counts = refl
counting_flags now key (Some s) counts = go (nat_lt (now - s.moment) sighting_age) refl counts
  where
    go : (b : Bool) → nat_lt (now - s.moment) sighting_age ≡ b → not b ≡ false → option_map (λ (row : LocalRow). row.entry.flags) (cond (nat_lt (now - s.moment) sighting_age) (Some (record { entry = entry_with key s.flags; age = Some (now - s.moment) })) None) ≡ Some s.flags
    go true e h = ap (λ b. option_map (λ (row : LocalRow). row.entry.flags) (cond b (Some (record { entry = entry_with key s.flags; age = Some (now - s.moment) })) None)) e
    go false e h = absurd (true≢false h)

flags_by_group : (now : ℕ) (key : Key) (o : Option Sighting) (joined : Bool) → is_aged_sighting now o ≡ false → option_map (λ (row : LocalRow). row.entry.flags) (client_row now key (record { sighting = o; joined = joined })) ≡ kept_flags (record { sighting = o; joined = joined })
flags_by_group now key o true counts = refl
flags_by_group now key o false counts = counting_flags now key o counts

-- a client whose sighting counts is present with its flags
pub counts_kept : (now : ℕ) (key : Key) (o : Option Client) → MatchOption o (Unit {0}) (λ client. is_aged now client ≡ false) → option_map (λ (row : LocalRow). row.entry.flags) (option_and_then (client_row now key) o) ≡ option_and_then kept_flags o
counts_kept now key None counts = refl
counts_kept now key (Some client) counts = flags_by_group now key client.sighting client.joined counts

-- where the keys of all aged sightings are pending, the others are present with their flags
pub renewed : (now : ℕ) (roster : RosterView) (clients : List (Key × Client)) (keys : List Key) → roster.clients ≡ clients
    → ((key : Key) (client : Client) → client_at clients key ≡ Some client → is_aged now client ≡ true → has_key keys key ≡ true)
    → ((q : Key) → has_key keys q ≡ true → IsSome (client_at clients q) → has_key roster.pending q ≡ true) → IsRenewed now roster
renewed now roster clients keys is found touched = subst (λ cs. (q : Key) → has_key roster.pending q ≡ false → present_flags now cs q ≡ option_and_then kept_flags (client_at cs q)) (sym is) each
  where
    counting : (q : Key) → has_key roster.pending q ≡ false → (o : Option Client) → client_at clients q ≡ o → MatchOption o (Unit {0}) (λ client. is_aged now client ≡ false)
    counting q absent None e = tt
    counting q absent (Some client) e = go (is_aged now client) refl
      where
        go : (b : Bool) → is_aged now client ≡ b → is_aged now client ≡ false
        go true t = absurd (true≢false (sym (touched q (found q client e t) (ap is_some e)) ∙ absent))
        go false t = t

    each : (q : Key) → has_key roster.pending q ≡ false → present_flags now clients q ≡ option_and_then kept_flags (client_at clients q)
    each q absent = counts_kept now q (client_at clients q) (counting q absent (client_at clients q) refl)

-- what is tracked step by step
pub tracks_on : (old mid new : RosterView) → Tracks old mid → Tracks mid new → Tracks old new
tracks_on old mid new first then q absent =
    let after = then q absent in
    let before = first q after.0 in
    (before.0, after.1 ∙ before.1)

-- one more of some keys is touched
pub touched_more : (keys : List Key) (i : ℕ) (key : Key) (clients : List (Key × Client)) (mid new : RosterView) → i < length keys → slice_get keys i ≡ Some key → mid.clients ≡ clients
    → ((q : Key) → has_key (take i keys) q ≡ true → IsSome (client_at clients q) → has_key mid.pending q ≡ true)
    → Tracks mid new → (IsSome (client_at mid.clients key) → has_key new.pending key ≡ true)
    → (q : Key) → has_key (take (i + 1) keys) q ≡ true → IsSome (client_at clients q) → has_key new.pending q ≡ true
touched_more keys i key clients mid new within is same before tracks touched q among there = go (has_key (take i keys) q) refl (sym (has_taken q keys i key within is) ∙ among)
  where
    stays : (b : Bool) → has_key new.pending q ≡ b → has_key mid.pending q ≡ true → has_key new.pending q ≡ true
    stays true e h = e
    stays false e h = absurd (true≢false (sym h ∙ (tracks q e).0))

    go : (b : Bool) → has_key (take i keys) q ≡ b → (b || same_key q key) ≡ true → has_key new.pending q ≡ true
    go true t h = stays (has_key new.pending q) refl (before q t there)
    go false t h =
        let one : q ≡ key = equal_from_same q key h in
        ap (has_key new.pending) one ∙ touched (subst (λ cs. IsSome (client_at cs key)) (sym same) (subst (λ k. IsSome (client_at clients k)) one there))

-- what holds of the first keys holds of these keys, where all were taken
pub all_taken : {P Q : Key → Type 0} (keys : List Key) (i : ℕ) (those : List Key) → length keys ≤ i → keys ≡ those → ((q : Key) → has_key (take i keys) q ≡ true → P q → Q q) → (q : Key) → has_key those q ≡ true → P q → Q q
all_taken keys i those all is touched q among =
    touched q (ap (λ ks. has_key ks q) (take_all i keys all ∙ is) ∙ among)

-- a key that was given a client has one
pub given_there : (key : Key) (client : Client) (old new : List (Key × Client)) → HasClient key (Some client) old new → IsSome (client_at new key)
given_there key client old new given =
    ap is_some (given key ∙ ap (λ b. cond b (Some client) (client_at old key)) (same_itself key))

-- what was tracked in a table still is
pub still_tracked : (old new : RosterView) (table : List Entry) → Tracks old new → IsTracked old table → IsTracked new table
still_tracked old new table tracks are key absent =
    let before = tracks key absent in
    are key before.0 ∙ ap (option_and_then kept_flags) (sym before.1)
