-- What a list of clients by key says of the present clients, and how a mention changes it.
use Rattle.std.proofs.Common.{map, filter_map, ◌≡◌, ◌↔◌, ◌≤◌, IsNone, IsSome, ◌+◌, length, slice_get, arith, ℕ, ◌-◌, Bool, true, false, cond, not, ◌&&◌, List, ◌∷◌, [], IfSome, Option, Some, None, option_and_then, option_map, refl, sym, ap, ap₂, subst, ◌∙◌}
use Rattle.std.specs.List.{cons_option}
use Rattle.std.specs.List.Sorted.{IsStrictlySortedBy}
use Rattle.std.specs.Option.{option_or}
use Rattle.std.proofs.lemmas.Cmp.{eq_by_cmp_equiv}
use Rattle.std.proofs.lemmas.Grind.{common_steps}
use Rattle.std.proofs.lemmas.Option.{gets}
use Rattle.mesh_base.specs.KeyOrder.{key_order}
use Rattle.mesh_base.specs.declared.client.Key.{Key}
use Rattle.mesh_model.specs.Clients.Mentions.{Mention, News, Sighted, Departed, Roamed, Joined, Left}
use Rattle.mesh_model.specs.Clients.Present.{same_key, is_membership, last_mention, last_membership, row_after, row_by, present_row, present_clients}
use Rattle.mesh_model.specs.declared.table_row.LocalRow.{LocalRow}
use Rattle.mesh_laws.proofs.KeyLists.{item_at, item_at_filter, sorted_filter}
use Rattle.mesh_laws.proofs.PresentLemmas.{key_total, key_exact, equal_from_same, same_itself, row_of_news, present_from_rows}
use Rattle.tt_local.specs.Clients.{sighting_row, sighted_row, group_row, client_row, client_at, client_after, known_client, with_sighting, with_joined, AreInOrder, ClientsStand, HasClient, HasNews}
use Rattle.tt_local.specs.declared.client.Client.{Client}
use Rattle.tt_local.specs.declared.sighting.Sighting.{Sighting}

-- the rows of the clients that are present
abbrev pub client_rows : ℕ → List (Key × Client) → List LocalRow
client_rows now clients = filter_map (λ e. client_row now e.0 e.1) clients

row_of_both : (now : ℕ) (key : Key) (o : Option Client) → option_and_then (client_row now key) o ≡ option_or (option_and_then (group_row key) o) (option_and_then (sighted_row now key) o)
row_of_both now key None = refl
row_of_both now key (Some client) = refl

-- a key's client gives its row
pub row_kept : (clients : List (Key × Client)) (mentions : List Mention) (since now : ℕ) → ClientsStand clients mentions since → since ≤ now → (key : Key) → option_and_then (client_row now key) (client_at clients key) ≡ present_row mentions now key
row_kept clients mentions since now stands late key = row_of_both now key (client_at clients key) ∙ ap₂ option_or (stands.joined key now) (stands.sighted key now late)

row_of_group : (key : Key) (joined : Bool) → IfSome (cond joined (row_after key 0 Joined) None) (λ r. r.entry.key ≡ key)
row_of_group key true = refl
row_of_group key false = tt

row_of_sighted : (now : ℕ) (key : Key) (o : Option Sighting) → IfSome (option_and_then (sighting_row now key) o) (λ r. r.entry.key ≡ key)
row_of_sighted now key None = tt
row_of_sighted now key (Some s) = row_of_news key (now - s.moment) (Sighted s.flags)

either : (key : Key) (o p : Option LocalRow) → IfSome o (λ r. r.entry.key ≡ key) → IfSome p (λ r. r.entry.key ≡ key) → IfSome (option_or o p) (λ r. r.entry.key ≡ key)
either key None p h k = k
either key (Some r) p h k = h

-- a client's row is of its key
pub row_of_client : (now : ℕ) (key : Key) (client : Client) → IfSome (client_row now key client) (λ r. r.entry.key ≡ key)
row_of_client now key client = either key (group_row key client) (sighted_row now key client) (row_of_group key client.joined) (row_of_sighted now key client.sighting)

row_from_item : (now : ℕ) (q : Key) (clients : List (Key × Client)) → option_and_then (λ (e : Key × Client). client_row now e.0 e.1) (item_at key_order (λ (e : Key × Client). e.0) q clients) ≡ option_and_then (client_row now q) (client_at clients q)
row_from_item now q [] = refl
row_from_item now q (e ∷ es) =
    elim (same_key q e.0) as (λ b. same_key q e.0 ≡ b → option_and_then (λ (d : Key × Client). client_row now d.0 d.1) (cond b (Some e) (item_at key_order (λ (d : Key × Client). d.0) q es)) ≡ option_and_then (client_row now q) (cond b (Some e.1) (client_at es q))) [
      | true ↦ λ t. ap (λ k. client_row now k e.1) (sym (equal_from_same q e.0 t))
      | false ↦ λ t. row_from_item now q es
    ] refl

-- the rows of the clients that are present are in key order
pub rows_sorted : (now : ℕ) (clients : List (Key × Client)) → AreInOrder clients → IsStrictlySortedBy key_order (map (λ (r : LocalRow). r.entry.key) (client_rows now clients))
rows_sorted now clients ordered = sorted_filter key_order (λ (e : Key × Client). e.0) (λ (r : LocalRow). r.entry.key) (λ e. client_row now e.0 e.1) (λ e. row_of_client now e.0 e.1) clients ordered

-- the row of a key among the rows of the clients that are present
pub row_in_rows : (now : ℕ) (clients : List (Key × Client)) → AreInOrder clients → (q : Key) → item_at key_order (λ (r : LocalRow). r.entry.key) q (client_rows now clients) ≡ option_and_then (client_row now q) (client_at clients q)
row_in_rows now clients ordered q = item_at_filter key_order (λ (e : Key × Client). e.0) (λ (r : LocalRow). r.entry.key) (λ e. client_row now e.0 e.1) (λ e. row_of_client now e.0 e.1) key_exact q clients ordered
    ∙ row_from_item now q clients

-- the rows of the clients that are present are the present clients
pub rows_kept : (clients : List (Key × Client)) (mentions : List Mention) (since now : ℕ) → ClientsStand clients mentions since → since ≤ now → client_rows now clients ≡ present_clients mentions now
rows_kept clients mentions since now stands late =
    present_from_rows now mentions (client_rows now clients)
    (rows_sorted now clients stands.ordered)
    (λ q. row_in_rows now clients stands.ordered q ∙ row_kept clients mentions since now stands late q)

-- what is taken of each that is found
found_mapped : {X Y Z : Type 0} (f : X → Option Y) (g : Y → Z) (xs : List X) → filter_map (λ x. option_map g (f x)) xs ≡ map g (filter_map f xs)
found_mapped f g [] = refl
found_mapped f g (x ∷ xs) = elim (f x) as (λ o. cons_option (option_map g o) (filter_map (λ x. option_map g (f x)) xs) ≡ map g (cons_option o (filter_map f xs))) [
  | None ↦ found_mapped f g xs
  | Some y ↦ ap (λ zs. g y ∷ zs) (found_mapped f g xs)
]

-- the VLANs of the clients that are present are those of the present clients
pub vids_kept : (clients : List (Key × Client)) (mentions : List Mention) (since now : ℕ) → ClientsStand clients mentions since → since ≤ now
    → filter_map (λ e. option_map (λ row. row.entry.key.vid) (client_row now e.0 e.1)) clients ≡ map (λ row. row.entry.key.vid) (present_clients mentions now)
vids_kept clients mentions since now stands late =
    found_mapped (λ (e : Key × Client). client_row now e.0 e.1) (λ (row : LocalRow). row.entry.key.vid) clients
    ∙ ap (map (λ (row : LocalRow). row.entry.key.vid)) (rows_kept clients mentions since now stands late)

-- no clients are in order
pub none_in_order : AreInOrder []
unfolding IsStrictlySortedBy
none_in_order = tt

-- no clients are those of a node without mentions
pub ClientsStand-empty : (since : ℕ) → ClientsStand [] [] since
unfolding IsStrictlySortedBy
ClientsStand-empty since = record { sighted = λ key now late. refl; joined = λ key now. refl; ordered = tt }

-- two keys are one in either order
pub swapped : (a b : Key) → same_key a b ≡ same_key b a
swapped a b = (eq_by_cmp_equiv key_total).symm a b

-- the last mention of a key after a mention of it
last_said : (m : Mention) (mentions : List Mention) → last_mention (m ∷ mentions) m.key ≡ cond (not (is_membership m.news)) (Some m) (last_mention mentions m.key)
last_said m mentions = ap (λ b. cond (b && not (is_membership m.news)) (Some m) (last_mention mentions m.key)) (same_itself m.key)

-- the last membership of a key after a mention of it
last_joined : (m : Mention) (mentions : List Mention) → last_membership (m ∷ mentions) m.key ≡ cond (is_membership m.news) (Some m) (last_membership mentions m.key)
last_joined m mentions = ap (λ b. cond (b && is_membership m.news) (Some m) (last_membership mentions m.key)) (same_itself m.key)

known_group : (key : Key) (o : Option Client) → group_row key (known_client o) ≡ option_and_then (group_row key) o
known_group key None = refl
known_group key (Some client) = refl

known_sighted : (now : ℕ) (key : Key) (o : Option Client) → sighted_row now key (known_client o) ≡ option_and_then (sighted_row now key) o
known_sighted now key None = refl
known_sighted now key (Some client) = refl

no_sighting : (now : ℕ) (key : Key) (o : Option Client) → option_and_then (sighted_row now key) (option_map (with_sighting None) o) ≡ None
no_sighting now key None = refl
no_sighting now key (Some client) = refl

group_stays : (key : Key) (o : Option Client) → option_and_then (group_row key) (option_map (with_sighting None) o) ≡ option_and_then (group_row key) o
group_stays key None = refl
group_stays key (Some client) = refl

no_group : (key : Key) (o : Option Client) → option_and_then (group_row key) (option_map (with_joined false) o) ≡ None
no_group key None = refl
no_group key (Some client) = refl

sighting_stays : (now : ℕ) (key : Key) (o : Option Client) → option_and_then (sighted_row now key) (option_map (with_joined false) o) ≡ option_and_then (sighted_row now key) o
sighting_stays now key None = refl
sighting_stays now key (Some client) = refl

-- the sighting of a key after news of it
seen_after : (now at : ℕ) (key : Key) (news : News) (o : Option Client) (last : Option Mention)
    → option_and_then (sighted_row now key) o ≡ option_and_then (row_by now) last
    → option_and_then (sighted_row now key) (client_after at news o) ≡ option_and_then (row_by now) (cond (not (is_membership news)) (Some (record { moment = at; key = key; news = news })) last)
seen_after now at key (Sighted flags) o last was = refl
seen_after now at key Departed o last was = no_sighting now key o
seen_after now at key Roamed o last was = no_sighting now key o
seen_after now at key Joined o last was = known_sighted now key o ∙ was
seen_after now at key Left o last was = sighting_stays now key o ∙ was

-- the membership of a key after news of it
joined_after : (now at : ℕ) (key : Key) (news : News) (o : Option Client) (last : Option Mention)
    → option_and_then (group_row key) o ≡ option_and_then (row_by now) last
    → option_and_then (group_row key) (client_after at news o) ≡ option_and_then (row_by now) (cond (is_membership news) (Some (record { moment = at; key = key; news = news })) last)
joined_after now at key (Sighted flags) o last was = known_group key o ∙ was
joined_after now at key Departed o last was = group_stays key o ∙ was
joined_after now at key Roamed o last was = group_stays key o ∙ was
joined_after now at key Joined o last was = refl
joined_after now at key Left o last was = no_group key o

-- clients after news of a key stand for the mentions with one more
pub mentioned : (clients after : List (Key × Client)) (mentions : List Mention) (since : ℕ) (m : Mention)
    → HasNews m.moment m.key m.news clients after → AreInOrder after → ClientsStand clients mentions since → ClientsStand after (m ∷ mentions) since
mentioned clients after mentions since m has ordered stands = record {
  sighted = λ q now late. ap (option_and_then (sighted_row now q)) (has q) ∙ by_sighting q now late (same_key m.key q) refl;
  joined = λ q now. ap (option_and_then (group_row q)) (has q) ∙ by_group q now (same_key m.key q) refl;
  ordered = ordered;
}
  where
    by_sighting : (q : Key) (now : ℕ) → since ≤ now → (b : Bool) → same_key m.key q ≡ b → option_and_then (sighted_row now q) (cond b (client_after m.moment m.news (client_at clients m.key)) (client_at clients q)) ≡ option_and_then (row_by now) (last_mention (m ∷ mentions) q)
    by_sighting q now late true t = subst (λ k. option_and_then (sighted_row now k) (client_after m.moment m.news (client_at clients m.key)) ≡ option_and_then (row_by now) (last_mention (m ∷ mentions) k)) (equal_from_same m.key q t)
        (seen_after now m.moment m.key m.news (client_at clients m.key) (last_mention mentions m.key) (stands.sighted m.key now late) ∙ ap (option_and_then (row_by now)) (sym (last_said m mentions)))
    by_sighting q now late false t = stands.sighted q now late
        ∙ ap (λ b. option_and_then (row_by now) (cond (b && not (is_membership m.news)) (Some m) (last_mention mentions q))) (sym (swapped q m.key ∙ t))

    by_group : (q : Key) (now : ℕ) → (b : Bool) → same_key m.key q ≡ b → option_and_then (group_row q) (cond b (client_after m.moment m.news (client_at clients m.key)) (client_at clients q)) ≡ option_and_then (row_by now) (last_membership (m ∷ mentions) q)
    by_group q now true t = subst (λ k. option_and_then (group_row k) (client_after m.moment m.news (client_at clients m.key)) ≡ option_and_then (row_by now) (last_membership (m ∷ mentions) k)) (equal_from_same m.key q t)
        (joined_after now m.moment m.key m.news (client_at clients m.key) (last_membership mentions m.key) (stands.joined m.key now) ∙ ap (option_and_then (row_by now)) (sym (last_joined m mentions)))
    by_group q now false t = stands.joined q now
        ∙ ap (λ b. option_and_then (row_by now) (cond (b && is_membership m.news) (Some m) (last_membership mentions q))) (sym (swapped q m.key ∙ t))

-- a key that has no client, with none after news that give none
pub unchanged : (clients : List (Key × Client)) (key : Key) (client : Option Client) → client_at clients key ≡ client → HasClient key client clients clients
unchanged clients key client is q = go (same_key key q) refl
  where
    go : (b : Bool) → same_key key q ≡ b → client_at clients q ≡ cond b client (client_at clients q)
    go true t = subst (λ k. client_at clients k ≡ client) (equal_from_same key q t) is
    go false t = refl

-- a place of a list has nothing exactly where it is past the end
pub none_past_end : (rows : List LocalRow) (i : ℕ) (row : Option LocalRow) → row ≡ slice_get rows i → IsNone row ↔ (length rows ≤ i)
none_past_end rows i row is = grind (arith, common_steps, gets)

-- the client of a key that has none isn't changed
pub none_changed : (clients : List (Key × Client)) (key : Key) (f : Client → Client) (o : Option Client) → o ≡ client_at clients key → o ≡ None → HasClient key (option_map f (client_at clients key)) clients clients
none_changed clients key f o is none =
    let absent : client_at clients key ≡ None = sym is ∙ none in
    unchanged clients key _ (absent ∙ sym (ap (option_map f) absent))

some_after : (at : ℕ) (news : News) (o : Option Client) → IsSome o → IsSome (client_after at news o)
some_after at (Sighted flags) o there = refl
some_after at Departed None there = there
some_after at Departed (Some client) there = refl
some_after at Roamed None there = there
some_after at Roamed (Some client) there = refl
some_after at Joined o there = refl
some_after at Left None there = there
some_after at Left (Some client) there = refl

-- a key that had a client has one after news
pub among_after : (clients after : List (Key × Client)) (at : ℕ) (key : Key) (news : News) → HasNews at key news clients after → (q : Key) → IsSome (client_at clients q) → IsSome (client_at after q)
among_after clients after at key news has q there = subst IsSome (sym (has q)) (go (same_key key q) refl)
  where
    go : (b : Bool) → same_key key q ≡ b → IsSome (cond b (client_after at news (client_at clients key)) (client_at clients q))
    go true t = some_after at news (client_at clients key) (subst (λ k. IsSome (client_at clients k)) (sym (equal_from_same key q t)) there)
    go false t = there

-- as many, where none came
pub none_came : (n m : ℕ) (b : Bool) → m ≡ n + cond b 0 1 → b ≡ true → m ≡ n
none_came n m b len was =
    let same : m ≡ n + 0 = len ∙ ap (λ c. n + cond c 0 1) was in
    omega (arith, same)
