-- An event among those of a mesh that parts of an input lead to, one after another.
use Rattle.std.proofs.Common.{◌≡◌, ◌⊎◌, inl, inr, ℕ, List, [], ◌∷◌, ◌++◌, slice_get, Option, Some, Ok, refl, sym, ap, ◌∙◌, append_assoc, append-nil}
use Rattle.std.proofs.lemmas.List.{append_cancel_left}
use Rattle.mesh_base.specs.declared.address.Mac.{Mac}
use Rattle.mesh_base.specs.declared.event.Event.{Event}
use Rattle.mesh_base.specs.declared.event.Event.TheVariants.{Alias}
use Rattle.mesh_model.specs.declared.act.Act.{Act}
use Rattle.mesh_model.specs.Clients.Log.{Given}
use Rattle.mesh_model.specs.Net.Inputs.{after_entry, entry_of, given_node, given_to, noted, noted_at}
use Rattle.mesh_model.specs.Net.Mesh.{NodeLog, Mesh, Setup}
use Rattle.mesh_model.specs.Net.Next.{Has}
use Rattle.mesh_model.specs.Net.Sending.{Actor, after_act, after_acts, on_ok}
use Rattle.mesh_laws.proofs.Schedule.Sends.{ok_one, on_ok_ok}
use Rattle.mesh_laws.proofs.Schedule.Steps.{not_passed}
use Rattle.mesh_tie.proofs.AliasRows.{AreQuiet, quiet_none}
use Rattle.mesh_tie.proofs.EventLemmas.{Split, in_first, in_second, split, split_has}
use Rattle.mesh_tie.proofs.SentLemmas.{IsOfActs}

-- ---- lists
-- an item of a list stands before what follows the list
pub record StandsBefore {X : Type 0} (xs more before : List X) (e : X) (back : List X) : Type 0 where
  pub rest : List X
  pub list_is : xs ≡ before ++ e ∷ rest
  pub back_is : back ≡ rest ++ more

tails : {X : Type 0} (a b : X) (xs ys : List X) → a ∷ xs ≡ b ∷ ys → xs ≡ ys
tails a b xs ys e = cc

pub no_place : {X : Type 0} (before : List X) (e : X) (back : List X) → [] ≡ before ++ e ∷ back → ⊥
no_place [] e back is = cc
no_place (first ∷ before) e back is = cc

stands_before : {X : Type 0} (xs more before : List X) (e : X) (back rest : List X) → xs ++ more ≡ before ++ e ∷ back → xs ≡ before ++ e ∷ rest → StandsBefore xs more before e back
stands_before xs more before e back rest is at = record {
  rest = rest;
  list_is = at;
  back_is = tails e e back (rest ++ more) (append_cancel_left before (e ∷ back) (e ∷ (rest ++ more)) (sym is ∙ ap (λ l. l ++ more) at ∙ append_assoc before (e ∷ rest) more));
}

-- an item that isn't among those that follow stands before them
pub peeled : {X : Type 0} (xs more before : List X) (e : X) (back : List X) → (Has more e → ⊥) → xs ++ more ≡ before ++ e ∷ back → StandsBefore xs more before e back
peeled xs more before e back none is = go (split xs more before e back is)
  where
    go : Split xs more before e → StandsBefore xs more before e back
    go (in_first rest p) = stands_before xs more before e back rest is p
    go (in_second front rest p q) = absurd (none (split_has more front e rest q))

-- an item of a list with one more is one of the list, or the one
pub one_or_older : {X : Type 0} (xs : List X) (x : X) (before : List X) (e : X) (back : List X) → xs ++ x ∷ [] ≡ before ++ e ∷ back → StandsBefore xs (x ∷ []) before e back ⊎ ((before ≡ xs) × (x ≡ e) × (back ≡ []))
one_or_older {X = X} xs x before e back is = go (split xs (x ∷ []) before e back is)
  where
    last : (front rest : List X) → before ≡ xs ++ front → x ∷ [] ≡ front ++ e ∷ rest → (before ≡ xs) × (x ≡ e) × (back ≡ [])
    last [] rest p q =
        let same : before ≡ xs = p ∙ append-nil xs in
        let both : x ∷ [] ≡ e ∷ back = append_cancel_left xs (x ∷ []) (e ∷ back) (is ∙ ap (λ l. l ++ e ∷ back) same) in
        (same, (let head : x ≡ e = cc in head), sym (tails x e [] back both))
    last (first ∷ front) rest p q = absurd (no_place front e rest (tails x first [] (front ++ e ∷ rest) q))

    go : Split xs (x ∷ []) before e → StandsBefore xs (x ∷ []) before e back ⊎ ((before ≡ xs) × (x ≡ e) × (back ≡ []))
    go (in_first rest p) = inl (stands_before xs (x ∷ []) before e back rest is p)
    go (in_second front rest p q) = inr (last front rest p q)

-- ---- acts
-- acts that are carried out one after another
pub acts_apart : (setup : Setup) (actor : Actor) (xs ys : List Act) (mesh after : Mesh) → after_acts setup actor (xs ++ ys) mesh ≡ Ok after → (mid : Mesh) × (after_acts setup actor xs mesh ≡ Ok mid) × (after_acts setup actor ys mid ≡ Ok after)
acts_apart setup actor [] ys mesh after e = (mesh, refl, e)
acts_apart setup actor (act ∷ xs) ys mesh after e =
    let p = on_ok_ok (after_acts setup actor (xs ++ ys)) (after_act setup actor act mesh) after e in
    let q = acts_apart setup actor xs ys p.0 after p.2 in
    (q.0, ap (on_ok (after_acts setup actor xs)) p.1 ∙ q.1, q.2)

-- the acts of an input, carried out
pub record CarriesActs (setup : Setup) (place now root : ℕ) (node : NodeLog) (given : Given) (mesh after : Mesh) : Type 0 where
  pub mid : Mesh
  pub carried : after_acts setup (record { place = place; mac = node.mac; now = now; root = root }) (entry_of setup node now given).acts mesh ≡ Ok mid
  pub events : after.events ≡ mid.events

same_events : (made after : Mesh) → made ≡ after → after.events ≡ made.events
same_events made after same = ap (λ (m : Mesh). m.events) (sym same)

pub carries_acts : (setup : Setup) (place now root : ℕ) (node : NodeLog) (given : Given) (mesh after : Mesh) → slice_get mesh.nodes place ≡ Some node → given_to setup place now root given mesh ≡ Ok after → CarriesActs setup place now root node given mesh after
carries_acts setup place now root node given mesh after found e =
    let entry = entry_of setup node now given in
    let actor : Actor = record { place = place; mac = node.mac; now = now; root = root } in
    let step : after_entry setup actor entry mesh ≡ Ok after =
    not_passed setup actor mesh (setup.node_limit node.mac node.log now given) (after_entry setup actor entry mesh) after (ap (λ (o : Option NodeLog). given_node setup place now root given o mesh) (sym found) ∙ e) in
    let p = on_ok_ok (noted place entry) (after_acts setup actor entry.acts mesh) after step in
    let made : Mesh = record p.0 { nodes = noted_at place entry p.0.nodes } in
    record { mid = p.0; carried = p.1; events = same_events made after (ok_one made after p.2) }

-- acts that tell of no alias have no event of one
pub quiet_events : (acts : List Act) (mac : Mac) (now : ℕ) (events : List Event) → AreQuiet acts → ((event : Event) → Has events event → IsOfActs acts mac now event) → (orig : Mac) (number earlier : ℕ) → Has events (Alias orig number earlier) → ⊥
quiet_events acts mac now events quiet came orig number earlier has = go (came (Alias orig number earlier) has)
  where
    go : IsOfActs acts mac now (Alias orig number earlier) → ⊥
    go (inl printed) = quiet_none acts orig number earlier quiet printed
    go (inr (inl sent)) = let e = sent.is in cc
    go (inr (inr put)) = let e = put.is in cc
