-- VLANs of clients: each once, they are no more than any that they are among.
use Rattle.std.proofs.Common.{◌≡◌, ◌≤◌, ◌<◌, ◌||◌, ◌+◌, ◌++◌, ℕ, suc, Bool, true, false, cond, List, [], ◌∷◌, length, map, nat_eq, Option, Some, None, IfSome, IsSome, option_map, is_some, refl, sym, ap, subst, ◌∙◌, arith}
use Rattle.std.specs.Cmp.{IsEquivalence}
use Rattle.std.specs.List.{AllByRecursion, cons_option, IsDistinct, list_any}
use Rattle.std.proofs.lemmas.Bool.{eqb-true, false≢true, le-ltb, lt-leb, true≢false}
use Rattle.std.proofs.lemmas.Cmp.{nat_eq_equiv}
use Rattle.std.proofs.lemmas.Map.Made.{length-le_from_is_member}
use Rattle.mesh_base.specs.declared.client.Key.{Key}
use Rattle.mesh_base.specs.declared.client.Vid.{Vid}
use Rattle.mesh_model.specs.Clients.Limits.{distinct_vids, limit_beside, passes_vlans}
use Rattle.mesh_model.specs.declared.ending.LimitName.TheVariants.{Clients, Vlans}
use Rattle.mesh_model.specs.declared.table_row.LocalRow.{LocalRow}
use Rattle.mesh_model.specs.Clients.Mentions.{Mention, News, Departed, Left}
use Rattle.mesh_model.specs.Clients.Present.{present_clients, same_key}
use Rattle.mesh_laws.proofs.PresentLemmas.{equal_from_same, same_itself}
use Rattle.tt_local.specs.Clients.{client_after, client_at, client_row, ClientsStand, HasClient, HasNews, with_joined, with_sighting}
use Rattle.tt_local.specs.Roster.{has_key, IsSettled, settled_client}
use Rattle.tt_local.specs.Vlans.{AreAmong, AreNamed, has_vid}
use Rattle.tt_local.specs.declared.client.Client.{Client}
use Rattle.tt_local.proofs.ClientsLemmas.{client_rows, row_of_client, rows_kept}

-- whether two VLANs are one
abbrev same_vid : Vid → Vid → Bool
same_vid vid other = nat_eq other.0 vid.0

same_vid_equiv : IsEquivalence same_vid
same_vid_equiv = record {
  refl = λ x. nat_eq_equiv.refl x.0;
  symm = λ x y. nat_eq_equiv.symm y.0 x.0;
  congr = λ x y z h. nat_eq_equiv.symm z.0 x.0 ∙ nat_eq_equiv.congr x.0 y.0 z.0 (nat_eq_equiv.symm x.0 y.0 ∙ h) ∙ nat_eq_equiv.symm y.0 z.0;
}

-- a VLAN that is named once is in the list
once_there : (vids : List Vid) → AreAmong (distinct_vids vids) vids
once_there [] vid h = h
once_there (v ∷ rest) vid h = go (list_any (λ other. nat_eq other.0 v.0) rest) h (once_there rest vid)
  where
    either : (a b c : Bool) → (a || b) ≡ true → (b ≡ true → c ≡ true) → (a || c) ≡ true
    either true b c h then = refl
    either false b c h then = then h

    later : (a b : Bool) → b ≡ true → (a || b) ≡ true
    later true b h = refl
    later false b h = h

    go : (b : Bool) → has_vid (cond b [] (v ∷ []) ++ distinct_vids rest) vid ≡ true → (has_vid (distinct_vids rest) vid ≡ true → has_vid rest vid ≡ true) → (nat_eq v.0 vid.0 || has_vid rest vid) ≡ true
    go true h then = later (nat_eq v.0 vid.0) (has_vid rest vid) (then h)
    go false h then = either (nat_eq v.0 vid.0) (has_vid (distinct_vids rest) vid) (has_vid rest vid) h then

none_same : (vid : Vid) (vids : List Vid) → has_vid vids vid ≡ false → AllByRecursion (λ y. same_vid vid y ≡ false) vids
none_same vid [] absent = tt
none_same vid (v ∷ vs) absent = go (same_vid vid v) refl absent (none_same vid vs)
  where
    go : (b : Bool) → same_vid vid v ≡ b → (b || has_vid vs vid) ≡ false → (has_vid vs vid ≡ false → AllByRecursion (λ y. same_vid vid y ≡ false) vs) → AllByRecursion (λ y. same_vid vid y ≡ false) (v ∷ vs)
    go true t h rest = absurd (true≢false h)
    go false t h rest = (t, rest h)

absent_once : (vids : List Vid) (vid : Vid) → has_vid vids vid ≡ false → has_vid (distinct_vids vids) vid ≡ false
absent_once vids vid absent = go (has_vid (distinct_vids vids) vid) refl
  where
    go : (b : Bool) → has_vid (distinct_vids vids) vid ≡ b → b ≡ false
    go true t = absurd (true≢false (sym (once_there vids vid t) ∙ absent))
    go false t = refl

once_each : (vids : List Vid) → IsDistinct same_vid (distinct_vids vids)
unfolding IsDistinct
once_each [] = tt
once_each (v ∷ rest) = go (list_any (λ other. nat_eq other.0 v.0) rest) refl (once_each rest)
  where
    go : (b : Bool) → has_vid rest v ≡ b → IsDistinct same_vid (distinct_vids rest) → IsDistinct same_vid (cond b [] (v ∷ []) ++ distinct_vids rest)
    go true t each = each
    go false t each = (none_same v (distinct_vids rest) (absent_once rest v t), each)

-- VLANs that are among others are at most as many
few_among : (vids named : List Vid) → AreAmong vids named → length (distinct_vids vids) ≤ length named
few_among vids named among =
    length-le_from_is_member same_vid_equiv (distinct_vids vids) named (once_each vids) (λ q h. among q (once_there vids q h))

-- with one more, they are at most one more where that isn't among them
pub few_with : (vids named : List Vid) (vid : Vid) → AreAmong vids named → length (distinct_vids (vid ∷ vids)) ≤ length named + cond (has_vid named vid) 0 1
few_with vids named vid among = go (has_vid named vid) refl
  where
    same : (other : Vid) → nat_eq vid.0 other.0 ≡ true → has_vid named vid ≡ has_vid named other
    same other h = ap (λ n. list_any (λ (v : Vid). nat_eq v.0 n) named) (eqb-true vid.0 other.0 h)

    there : has_vid named vid ≡ true → AreAmong (vid ∷ vids) named
    there t other = at (nat_eq vid.0 other.0) refl
      where
        at : (b : Bool) → nat_eq vid.0 other.0 ≡ b → (b || has_vid vids other) ≡ true → has_vid named other ≡ true
        at true e h = sym (same other e) ∙ t
        at false e h = among other h

    beside : AreAmong (vid ∷ vids) (vid ∷ named)
    beside other = at (nat_eq vid.0 other.0)
      where
        at : (b : Bool) → (b || has_vid vids other) ≡ true → (b || has_vid named other) ≡ true
        at true h = refl
        at false h = among other h

    go : (b : Bool) → has_vid named vid ≡ b → length (distinct_vids (vid ∷ vids)) ≤ length named + cond b 0 1
    go true t = let few = few_among (vid ∷ vids) named (there t) in omega (arith, few)
    go false t = let few = few_among (vid ∷ vids) (vid ∷ named) beside in omega (arith, few)

-- ---- the VLANs of clients
-- those of no clients are named
pub none_named : (named : List Vid) (clients : List (Key × Client)) → clients ≡ [] → AreNamed named clients
none_named named clients is key there = absurd (false≢true (ap (λ cs. is_some (client_at cs key)) (sym is) ∙ there))

-- they are named after news of a key whose VLAN is
pub named_after : (named more : List Vid) (clients after : List (Key × Client)) (at : ℕ) (key : Key) (news : News) → HasNews at key news clients after → AreAmong named more → has_vid more key.vid ≡ true → AreNamed named clients → AreNamed more after
named_after named more clients after at key news has among there are q some = go (same_key key q) refl (subst IsSome (has q) some)
  where
    go : (b : Bool) → same_key key q ≡ b → IsSome (cond b (client_after at news (client_at clients key)) (client_at clients q)) → has_vid more q.vid ≡ true
    go true t h = subst (λ k. has_vid more k.vid ≡ true) (equal_from_same key q t) there
    go false t h = among q.vid (are q h)

some_before : (f : Client → Client) (o : Option Client) → IsSome (option_map f o) → IsSome o
some_before f None h = h
some_before f (Some client) h = refl

named_changed : (f : Client → Client) (named : List Vid) (clients after : List (Key × Client)) (key : Key) → HasClient key (option_map f (client_at clients key)) clients after → AreNamed named clients → AreNamed named after
named_changed f named clients after key has are q some = go (same_key key q) refl (subst IsSome (has q) some)
  where
    go : (b : Bool) → same_key key q ≡ b → IsSome (cond b (option_map f (client_at clients key)) (client_at clients q)) → has_vid named q.vid ≡ true
    go true t h = subst (λ k. has_vid named k.vid ≡ true) (equal_from_same key q t) (are key (some_before f (client_at clients key) h))
    go false t h = are q h

-- and where a client departed or a group was left
pub named_departed : (named : List Vid) (clients after : List (Key × Client)) (key : Key) → HasNews 0 key Departed clients after → AreNamed named clients → AreNamed named after
named_departed named clients after key = named_changed (with_sighting None) named clients after key

pub named_left : (named : List Vid) (clients after : List (Key × Client)) (key : Key) → HasNews 0 key Left clients after → AreNamed named clients → AreNamed named after
named_left named clients after key = named_changed (with_joined false) named clients after key

some_settled : (now : ℕ) (key : Key) (o : Option Client) → IsSome (settled_client now key o) → IsSome o
some_settled now key None h = h
some_settled now key (Some client) h = refl

-- and of those that are settled
pub named_settled : (named : List Vid) (now : ℕ) (keys : List Key) (clients after : List (Key × Client)) → IsSettled now keys clients after → AreNamed named clients → AreNamed named after
named_settled named now keys clients after settled are q some = are q (go (has_key keys q) (subst IsSome (settled q) some))
  where
    go : (b : Bool) → IsSome (cond b (settled_client now q (client_at clients q)) (client_at clients q)) → IsSome (client_at clients q)
    go true h = some_settled now q (client_at clients q) h
    go false h = h

-- ---- room for one more client
named_rest : (named : List Vid) (key : Key) (client : Client) (rest : List (Key × Client)) → AreNamed named ((key, client) ∷ rest) → AreNamed named rest
named_rest named key client rest are q there = are q (go (same_key q key))
  where
    go : (b : Bool) → IsSome (cond b (Some client) (client_at rest q))
    go true = refl
    go false = there

named_first : (named : List Vid) (key : Key) (client : Client) (rest : List (Key × Client)) → AreNamed named ((key, client) ∷ rest) → has_vid named key.vid ≡ true
named_first named key client rest are = are key (ap (λ b. is_some (cond b (Some client) (client_at rest key))) (same_itself key))

-- the VLANs of the clients that are present are among those of all clients
rows_among : (now : ℕ) (named : List Vid) (clients : List (Key × Client)) → AreNamed named clients → AreAmong (map (λ (row : LocalRow). row.entry.key.vid) (client_rows now clients)) named
rows_among now named [] are vid h = absurd (false≢true h)
rows_among now named ((key, client) ∷ rest) are vid h =
    go (client_row now key client) (row_of_client now key client) (named_first named key client rest are) (rows_among now named rest (named_rest named key client rest are) vid) h
  where
    vids : List LocalRow → List Vid
    vids = map (λ (row : LocalRow). row.entry.key.vid)

    same : (first : Vid) → nat_eq first.0 vid.0 ≡ true → has_vid named first ≡ true → has_vid named vid ≡ true
    same first e there = subst (λ n. list_any (λ (v : Vid). nat_eq v.0 n) named ≡ true) (eqb-true first.0 vid.0 e) there

    either : (first : Vid) (b : Bool) → nat_eq first.0 vid.0 ≡ b → has_vid named first ≡ true → (has_vid (vids (client_rows now rest)) vid ≡ true → has_vid named vid ≡ true) → (b || has_vid (vids (client_rows now rest)) vid) ≡ true → has_vid named vid ≡ true
    either first true e there later h = same first e there
    either first false e there later h = later h

    go : (o : Option LocalRow) → IfSome o (λ r. r.entry.key ≡ key) → has_vid named key.vid ≡ true → (has_vid (vids (client_rows now rest)) vid ≡ true → has_vid named vid ≡ true) → has_vid (vids (cons_option o (client_rows now rest))) vid ≡ true → has_vid named vid ≡ true
    go None is there later h = later h
    go (Some row) is there later h =
        either row.entry.key.vid (nat_eq row.entry.key.vid.0 vid.0) refl (subst (λ (k : Key). has_vid named k.vid ≡ true) (sym is) there) later h

fewer_rows : (now : ℕ) (clients : List (Key × Client)) → length (client_rows now clients) ≤ length clients
fewer_rows now [] = omega arith
fewer_rows now (e ∷ rest) = go (client_row now e.0 e.1) (fewer_rows now rest)
  where
    go : (o : Option LocalRow) → length (client_rows now rest) ≤ length rest → length (cons_option o (client_rows now rest)) ≤ suc (length rest)
    go None few = omega (arith, few)
    go (Some row) few = omega (arith, few)

within : (rows : List LocalRow) (vid : Vid) → length rows < 4096 → length (distinct_vids (vid ∷ map (λ (row : LocalRow). row.entry.key.vid) rows)) ≤ 16 → limit_beside rows vid ≡ None
within rows vid few vlans =
    ap (λ b. cond b (Some Clients) (cond (passes_vlans rows vid) (Some Vlans) None)) (lt-leb 4096 (length rows) few)
    ∙ ap (λ b. cond b (Some Vlans) None) (le-ltb 16 (length (distinct_vids (vid ∷ map (λ (row : LocalRow). row.entry.key.vid) rows))) vlans)

-- where all clients and one more are within the limits, so are those that are present
pub room_beside : (named : List Vid) (clients : List (Key × Client)) (mentions : List Mention) (since now : ℕ) (vid : Vid) → ClientsStand clients mentions since → since ≤ now → AreNamed named clients → length clients < 4096 → ((vids : List Vid) → AreAmong vids named → length (distinct_vids (vid ∷ vids)) ≤ 16) → limit_beside (present_clients mentions now) vid ≡ None
room_beside named clients mentions since now vid stands late are few most =
    subst (λ rows. limit_beside rows vid ≡ None) (rows_kept clients mentions since now stands late)
    (let fewer = fewer_rows now clients in
    within (client_rows now clients) vid (omega (arith, few, fewer)) (most (map (λ (row : LocalRow). row.entry.key.vid) (client_rows now clients)) (rows_among now named clients are)))
