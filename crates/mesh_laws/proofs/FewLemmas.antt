-- How many clients are present: never more than may be, where each mention passed no limit.
use Rattle.std.proofs.Common.{◌≡◌, ◌≤◌, ◌<◌, ◌-◌, ℕ, suc, Bool, true, false, cond, not, ◌&&◌, ◌||◌, List, [], ◌∷◌, length, map, find, refl, sym, ap, subst, ◌∙◌, arith, Option, Some, None, is_some, is_none, option_and_then, is_eq, nat_lt, IsSome, Less, Equal, Greater}
use Rattle.std.specs.List.{AllByRecursion, list_any}
use Rattle.std.specs.List.Sorted.{IsStrictlySortedBy}
use Rattle.std.specs.Option.{option_or}
use Rattle.std.specs.Ordering.{ordering_reverse}
use Rattle.std.proofs.lemmas.Bool.{false≢true, true≢false, leb-false, ltb-true, lt-ltb}
use Rattle.std.proofs.lemmas.List.{length-map}
use Rattle.mesh_base.specs.KeyOrder.{key_order}
use Rattle.mesh_base.specs.declared.client.Key.{Key}
use Rattle.mesh_model.specs.declared.ending.LimitName.TheVariants.{Clients, Vlans}
use Rattle.mesh_model.specs.declared.table_row.LocalRow.{LocalRow}
use Rattle.mesh_model.specs.Clients.Limits.{clients_limit, is_newly_present, limit_beside, limit_of_mention, makes_present, passes_clients, passes_vlans}
use Rattle.mesh_model.specs.Clients.Mentions.{Mention, News, Sighted, Departed, Roamed, Joined, Left}
use Rattle.mesh_model.specs.Clients.Present.{is_membership, last_membership, last_mention, present_clients, present_row, row_after, row_by, same_key, sighting_age}
use Rattle.mesh_laws.proofs.PresentLemmas.{equal_from_same, key_exact, key_total, present_at, same_itself, sorted_present}

-- ---- keys in order, among others

-- a key is one of some
abbrev In : Key → List Key → Type 0
In key keys = list_any (same_key key) keys ≡ true

-- a key is below each of some
abbrev AreAbove : Key → List Key → Type 0
AreAbove key keys = AllByRecursion (λ y. key_order key y ≡ Less) keys

none_below : (q : Key) (keys : List Key) → AreAbove q keys → list_any (same_key q) keys ≡ false
none_below q [] above = refl
none_below q (y ∷ ys) above = ap (λ r. is_eq r || list_any (same_key q) ys) above.0 ∙ none_below q ys above.1

lower : (b a : Key) (keys : List Key) → key_order b a ≡ Less → AreAbove a keys → AreAbove b keys
lower b a [] below above = tt
lower b a (y ∷ ys) below above = (key_total.trans b a y below above.0, lower b a ys below above.1)

turned : (a b : Key) → key_order a b ≡ Greater → key_order b a ≡ Less
turned a b p = key_total.antisymm b a ∙ ap ordering_reverse p

apart : (b q : Key) → key_order b q ≡ Less → same_key q b ≡ false
apart b q p = ap is_eq (key_total.antisymm q b ∙ ap ordering_reverse p)

first_in : (a : Key) (keys : List Key) → In a (a ∷ keys)
first_in a keys = ap (λ b. b || list_any (same_key a) keys) (same_itself a)

later_in : (q a : Key) (keys : List Key) → In q keys → In q (a ∷ keys)
later_in q a keys is = elim (same_key q a) as (λ b. (b || list_any (same_key q) keys) ≡ true) [ true ↦ refl | false ↦ is ]

behind_first : (q b : Key) (keys : List Key) → same_key q b ≡ false → In q (b ∷ keys) → In q keys
behind_first q b keys other is = subst (λ c. (c || list_any (same_key q) keys) ≡ true) other is

is_above : (b q : Key) (keys : List Key) → AreAbove b keys → In q keys → key_order b q ≡ Less
is_above b q [] above is = absurd (false≢true is)
is_above b q (y ∷ ys) above is = elim (same_key q y) as (λ c. same_key q y ≡ c → key_order b q ≡ Less) [
  | true ↦ λ e. subst (λ k. key_order b k ≡ Less) (sym (equal_from_same q y e)) above.0
  | false ↦ λ e. is_above b q ys above.1 (behind_first q y ys e is)
] refl

-- keys that are among others are no more
few_among : (xs bs : List Key) → IsStrictlySortedBy key_order xs → IsStrictlySortedBy key_order bs → ((q : Key) → In q xs → In q bs) → length xs ≤ length bs
unfolding IsStrictlySortedBy
few_among [] bs sa sb within = omega arith
few_among (a ∷ xs) [] sa sb within = absurd (false≢true (within a (first_in a xs)))
few_among (a ∷ xs) (b ∷ bs) sa sb within = elim (key_order a b) as (λ r. key_order a b ≡ r → suc (length xs) ≤ suc (length bs)) [
  | Less ↦ λ p. absurd (true≢false (sym (within a (first_in a xs)) ∙ none_below a (b ∷ bs) (p, lower a b bs p sb.0)))
  | Equal ↦ λ p.
      let rest : length xs ≤ length bs = few_among xs bs sa.1 sb.1 (λ q is. behind_first q b bs (subst (λ k. same_key q k ≡ false) (key_exact a b p) (apart a q (is_above a q xs sa.0 is))) (within q (later_in q a xs is))) in
      omega (arith, rest)
  | Greater ↦ λ p.
      let rest : suc (length xs) ≤ length bs = few_among (a ∷ xs) bs sa sb.1
      (λ q is. behind_first q b bs (apart b q (is_above b q (a ∷ xs) (turned a b p, lower b a xs (turned a b p) sa.0) is)) (within q is)) in
      omega (arith, rest)
] refl

-- a key that is none of others, where the rest are among them
one_out : (k a : Key) (xs bs : List Key) → AreAbove a xs → IsStrictlySortedBy key_order xs → IsStrictlySortedBy key_order bs
    → ((q : Key) → In q (a ∷ xs) → same_key q k ≡ false → In q bs) → list_any (same_key a) bs ≡ false → suc (length xs) ≤ suc (length bs)
one_out k a xs bs above sa sb within out = elim (same_key a k) as (λ c. same_key a k ≡ c → suc (length xs) ≤ suc (length bs)) [
  | true ↦ λ e.
      let rest : length xs ≤ length bs = few_among xs bs sa sb
      (λ q is. within q (later_in q a xs is) (subst (λ x. same_key q x ≡ false) (equal_from_same a k e) (apart a q (is_above a q xs above is)))) in
      omega (arith, rest)
  | false ↦ λ e. absurd (true≢false (sym (within a (first_in a xs) e) ∙ out))
] refl

-- keys that are among others, but for one, are at most one more
few_but_one : (k : Key) (xs bs : List Key) → IsStrictlySortedBy key_order xs → IsStrictlySortedBy key_order bs
    → ((q : Key) → In q xs → same_key q k ≡ false → In q bs) → length xs ≤ suc (length bs)
unfolding IsStrictlySortedBy
few_but_one k [] bs sa sb within = omega arith
few_but_one k (a ∷ xs) [] sa sb within = one_out k a xs [] sa.0 sa.1 tt within refl
few_but_one k (a ∷ xs) (b ∷ bs) sa sb within = elim (key_order a b) as (λ r. key_order a b ≡ r → suc (length xs) ≤ suc (suc (length bs))) [
  | Less ↦ λ p. one_out k a xs (b ∷ bs) sa.0 sa.1 sb within (none_below a (b ∷ bs) (p, lower a b bs p sb.0))
  | Equal ↦ λ p.
      let rest : length xs ≤ suc (length bs) = few_but_one k xs bs sa.1 sb.1 (λ q is other. behind_first q b bs
      (subst (λ x. same_key q x ≡ false) (key_exact a b p) (apart a q (is_above a q xs sa.0 is))) (within q (later_in q a xs is) other)) in
      omega (arith, rest)
  | Greater ↦ λ p.
      let rest : suc (length xs) ≤ suc (length bs) = few_but_one k (a ∷ xs) bs sa sb.1
      (λ q is other. behind_first q b bs (apart b q (is_above b q (a ∷ xs) (turned a b p, lower b a xs (turned a b p) sa.0) is)) (within q is other)) in
      omega (arith, rest)
] refl

-- ---- who is present

-- the keys of the clients that are present
abbrev keys_at : List Mention → ℕ → List Key
keys_at mentions now = map (λ (row : LocalRow). row.entry.key) (present_clients mentions now)

found_in : (q : Key) (rows : List LocalRow) → list_any (same_key q) (map (λ (row : LocalRow). row.entry.key) rows) ≡ is_some (find (λ (row : LocalRow). same_key q row.entry.key) rows)
found_in q [] = refl
found_in q (row ∷ rows) = elim (same_key q row.entry.key) as (λ b. (b || list_any (same_key q) (map (λ (r : LocalRow). r.entry.key) rows)) ≡ is_some (cond b (Some row) (find (λ (r : LocalRow). same_key q r.entry.key) rows))) [
  | true ↦ refl
  | false ↦ found_in q rows
]

present_in : (mentions : List Mention) (now : ℕ) (q : Key) → list_any (same_key q) (keys_at mentions now) ≡ is_some (present_row mentions now q)
present_in mentions now q = found_in q (present_clients mentions now) ∙ ap is_some (present_at now mentions q)

either_is : (o p x y : Option LocalRow) → (IsSome o → IsSome x) → (IsSome p → IsSome y) → IsSome (option_or o p) → IsSome (option_or x y)
either_is None p x y first second is = by_first x (second is)
  where
    by_first : (x : Option LocalRow) → IsSome y → IsSome (option_or x y)
    by_first None is = is
    by_first (Some row) is = refl
either_is (Some row) p x y first second is = by_first x (first refl)
  where
    by_first : (x : Option LocalRow) → IsSome x → IsSome (option_or x y)
    by_first None is = absurd (false≢true is)
    by_first (Some row) is = refl

sooner : (key : Key) (late soon flags : ℕ) (b c : Bool) → nat_lt late sighting_age ≡ b → nat_lt soon sighting_age ≡ c → soon ≤ late
    → IsSome {T = LocalRow} (cond b (Some (record { entry = record { key = key; flags = flags }; age = Some late })) None)
    → IsSome {T = LocalRow} (cond c (Some (record { entry = record { key = key; flags = flags }; age = Some soon })) None)
sooner key late soon flags false c counts young less is = absurd (false≢true is)
sooner key late soon flags true true counts young less is = refl
sooner key late soon flags true false counts young less is =
    let below : late < sighting_age = ltb-true late sighting_age counts in
    absurd (true≢false (sym (lt-ltb soon sighting_age (omega (arith, below, less))) ∙ young))

news_sooner : (key : Key) (late soon : ℕ) (news : News) → soon ≤ late → IsSome (row_after key late news) → IsSome (row_after key soon news)
news_sooner key late soon (Sighted flags) less is = sooner key late soon flags (nat_lt late sighting_age) (nat_lt soon sighting_age) refl refl less is
news_sooner key late soon Departed less is = is
news_sooner key late soon Roamed less is = is
news_sooner key late soon Joined less is = refl
news_sooner key late soon Left less is = is

mention_sooner : (soon late : ℕ) (o : Option Mention) → soon ≤ late → IsSome (option_and_then (row_by late) o) → IsSome (option_and_then (row_by soon) o)
mention_sooner soon late None less is = is
mention_sooner soon late (Some m) less is = news_sooner m.key (late - m.moment) (soon - m.moment) m.news (omega (arith, less)) is

-- who is present later was so before, where nothing was mentioned
row_sooner : (mentions : List Mention) (soon late : ℕ) (q : Key) → soon ≤ late → IsSome (present_row mentions late q) → IsSome (present_row mentions soon q)
row_sooner mentions soon late q less is = either_is
    (option_and_then (row_by late) (last_membership mentions q)) (option_and_then (row_by late) (last_mention mentions q))
    (option_and_then (row_by soon) (last_membership mentions q)) (option_and_then (row_by soon) (last_mention mentions q))
    (mention_sooner soon late (last_membership mentions q) less) (mention_sooner soon late (last_mention mentions q) less) is

-- a mention of another key
other_row : (m : Mention) (older : List Mention) (now : ℕ) (q : Key) → same_key q m.key ≡ false → present_row (m ∷ older) now q ≡ present_row older now q
other_row m older now q other = ap (λ b. option_or
    (option_and_then (row_by now) (cond (b && is_membership m.news) (Some m) (last_membership older q)))
    (option_and_then (row_by now) (cond (b && not (is_membership m.news)) (Some m) (last_mention older q)))) other

first_left : (o : Option LocalRow) (p : Option LocalRow) → IsSome (option_or o None) → IsSome (option_or o p)
first_left None p is = absurd (false≢true is)
first_left (Some row) p is = refl

second_left : (o : Option LocalRow) (p : Option LocalRow) → IsSome p → IsSome (option_or o p)
second_left None p is = is
second_left (Some row) p is = refl

-- what news that make nobody present leave of their own key
news_left : (key : Key) (at now : ℕ) (news : News) (joined said : Option Mention) → makes_present news ≡ false
    → IsSome (option_or (option_and_then (row_by now) (cond (is_membership news) (Some (record { moment = at; key = key; news = news })) joined))
    (option_and_then (row_by now) (cond (not (is_membership news)) (Some (record { moment = at; key = key; news = news })) said)))
    → IsSome (option_or (option_and_then (row_by now) joined) (option_and_then (row_by now) said))
news_left key at now (Sighted flags) joined said calm is = absurd (true≢false calm)
news_left key at now Departed joined said calm is = first_left (option_and_then (row_by now) joined) (option_and_then (row_by now) said) is
news_left key at now Roamed joined said calm is = first_left (option_and_then (row_by now) joined) (option_and_then (row_by now) said) is
news_left key at now Joined joined said calm is = absurd (true≢false calm)
news_left key at now Left joined said calm is = second_left (option_and_then (row_by now) joined) (option_and_then (row_by now) said) is

own_row : (m : Mention) (older : List Mention) (now : ℕ) → makes_present m.news ≡ false → IsSome (present_row (m ∷ older) now m.key) → IsSome (present_row older now m.key)
own_row m older now calm is = news_left m.key m.moment now m.news (last_membership older m.key) (last_mention older m.key) calm
    (subst (λ b. IsSome (option_or
    (option_and_then (row_by now) (cond (b && is_membership m.news) (Some m) (last_membership older m.key)))
    (option_and_then (row_by now) (cond (b && not (is_membership m.news)) (Some m) (last_mention older m.key))))) (same_itself m.key) is)

-- ---- how many are

-- from a moment on no more clients are present than may be
abbrev pub HasFew : List Mention → ℕ → Type 0
HasFew mentions since = (now : ℕ) → since ≤ now → length (present_clients mentions now) ≤ clients_limit

counted : (mentions : List Mention) (now : ℕ) → length (keys_at mentions now) ≡ length (present_clients mentions now)
counted mentions now = length-map (present_clients mentions now) (λ (row : LocalRow). row.entry.key)

other_stays : (older : List Mention) (m : Mention) (now : ℕ) (q : Key) → m.moment ≤ now → same_key q m.key ≡ false → IsSome (present_row (m ∷ older) now q) → IsSome (present_row older m.moment q)
other_stays older m now q late other is = row_sooner older m.moment now q late (subst IsSome (other_row m older now q other) is)

limit_none : (rows : List LocalRow) (b c : Bool) → (cond b (Some Clients) (cond c (Some Vlans) None)) ≡ None → b ≡ false
limit_none rows true c is = absurd cc
limit_none rows false c is = refl

is_there : (o : Option LocalRow) → is_none o ≡ false → IsSome o
is_there None is = absurd (true≢false is)
is_there (Some row) is = refl

-- a mention that passes no limit leaves few present
pub few_with : (older : List Mention) (since : ℕ) (m : Mention) → HasFew older since → since ≤ m.moment → limit_of_mention older m ≡ None → HasFew (m ∷ older) m.moment
few_with older since m few later within now late = elim (is_newly_present older m) as (λ b. is_newly_present older m ≡ b → cond b (limit_beside (present_clients older m.moment) m.key.vid) None ≡ None → length (present_clients (m ∷ older) now) ≤ clients_limit) [
  | true ↦ λ e none.
      let free : passes_clients (present_clients older m.moment) ≡ false = limit_none (present_clients older m.moment) (passes_clients (present_clients older m.moment)) (passes_vlans (present_clients older m.moment) m.key.vid) none in
      let room : length (present_clients older m.moment) < clients_limit = leb-false clients_limit (length (present_clients older m.moment)) free in
      let more : length (keys_at (m ∷ older) now) ≤ suc (length (keys_at older m.moment)) = few_but_one m.key (keys_at (m ∷ older) now) (keys_at older m.moment) (sorted_present now (m ∷ older)) (sorted_present m.moment older)
      (λ q is other. present_in older m.moment q ∙ other_stays older m now q late other (sym (present_in (m ∷ older) now q) ∙ is)) in
      omega (arith, room, more, counted (m ∷ older) now, counted older m.moment)
  | false ↦ λ e none.
      let more : length (keys_at (m ∷ older) now) ≤ length (keys_at older m.moment) = few_among (keys_at (m ∷ older) now) (keys_at older m.moment) (sorted_present now (m ∷ older)) (sorted_present m.moment older)
      (λ q is. present_in older m.moment q ∙ stays e q (same_key q m.key) refl (sym (present_in (m ∷ older) now q) ∙ is)) in
      omega (arith, few m.moment later, more, counted (m ∷ older) now, counted older m.moment)
] refl within
  where
    by_news : (b : Bool) → makes_present m.news ≡ b → (b && is_none (present_row older m.moment m.key)) ≡ false → IsSome (present_row (m ∷ older) now m.key) → IsSome (present_row older m.moment m.key)
    by_news true makes e is = is_there (present_row older m.moment m.key) e
    by_news false makes e is = row_sooner older m.moment now m.key late (own_row m older now makes is)

    stays : is_newly_present older m ≡ false → (q : Key) (b : Bool) → same_key q m.key ≡ b → IsSome (present_row (m ∷ older) now q) → IsSome (present_row older m.moment q)
    stays e q true same is = subst (λ k. IsSome (present_row older m.moment k)) (sym (equal_from_same q m.key same))
        (by_news (makes_present m.news) refl e (subst (λ k. IsSome (present_row (m ∷ older) now k)) (equal_from_same q m.key same) is))
    stays e q false other is = other_stays older m now q late other is
