-- What is told of messages and tables, and of the events that a log gained, is right in a mesh that steps reach.
use Rattle.std.proofs.Common.{◌≡◌, ◌⊎◌, inl, inr, ℕ, Bool, true, false, cond, List, [], ◌∷◌, ◌++◌, filter, Some, refl, sym, ap, ◌∙◌, append_assoc}
use Rattle.mesh_base.specs.declared.address.Mac.{Mac}
use Rattle.mesh_base.specs.declared.event.Event.{Event}
use Rattle.mesh_base.specs.declared.event.Event.TheVariants.{Alias, FrameSent}
use Rattle.mesh_base.specs.declared.event.Reason.TheVariants.{Table}
use Rattle.mesh_model.specs.Net.Mesh.{Mesh}
use Rattle.mesh_model.specs.Net.Next.{Has}
use Rattle.mesh_model.specs.Routes.Queries.{Queries}
use Rattle.mesh_laws.proofs.Schedule.Members.{has_either}
use Rattle.mesh_tie.specs.NetTables.{GainsAreRight, SayingsAreRight, TablesAreRight}
use Rattle.mesh_tie.specs.Steps.{IsReachable}
use Rattle.mesh_tie.specs.TieLaws.{AllKeep, IsWithoutAlias}
use Rattle.mesh_tie.proofs.EventLemmas.{events_by_table_are_right}
use Rattle.mesh_tie.proofs.LawLemmas.{agreed_are_told, answers_carry, held_are_committed, messages_announce}
use Rattle.mesh_tie.proofs.SeenLemmas.{aliases_are_seen}

pub sayings_are_right : (queries : Mac → Queries) (mesh : Mesh) → AllKeep queries → IsReachable queries mesh → SayingsAreRight mesh
sayings_are_right queries mesh keep r orig none =
    let clear : IsWithoutAlias queries orig mesh = record { keep = keep; reachable = r; none = aliases_are_seen queries mesh r orig none } in
    record {
      messages = λ place frame packet sent has word. messages_announce queries orig mesh clear place frame packet sent has word;
      answers = λ place frame packet sent has word stamp carried is. answers_carry queries orig mesh clear place frame packet sent has word stamp carried is;
    }

pub tables_are_right : (queries : Mac → Queries) (mesh : Mesh) → AllKeep queries → IsReachable queries mesh → TablesAreRight queries mesh
tables_are_right queries mesh keep r orig none place node found =
    let clear : IsWithoutAlias queries orig mesh = record { keep = keep; reachable = r; none = aliases_are_seen queries mesh r orig none } in
    record {
      committed = λ held holds. held_are_committed queries orig mesh clear place node held found holds;
      told_last = λ last held told holds agreed. agreed_are_told queries orig mesh clear place node last held found told holds agreed;
    }

-- an item among those that are kept stands among all
record IsKeptFrom (test : Event → Bool) (all front : List Event) (e : Event) : Type 0 where
  before : List Event
  after : List Event
  all_is : all ≡ before ++ e ∷ after
  kept : (x : Event) → test x ≡ true → Has before x → Has front x

heads : (a b : Event) (xs ys : List Event) → a ∷ xs ≡ b ∷ ys → (a ≡ b) × (xs ≡ ys)
heads a b xs ys is = (cc, cc)

no_item : (front : List Event) (e : Event) (back : List Event) → [] ≡ front ++ e ∷ back → ⊥
no_item [] e back is = cc
no_item (x ∷ front) e back is = cc

kept_from : (test : Event → Bool) (all front : List Event) (e : Event) (back : List Event) → filter test all ≡ front ++ e ∷ back → IsKeptFrom test all front e
kept_from test [] front e back is = absurd (no_item front e back is)
kept_from test (z ∷ zs) front e back is = go (λ front is. kept_from test zs front e back is) (test z) refl is
  where
    skipped : test z ≡ false → IsKeptFrom test zs front e → IsKeptFrom test (z ∷ zs) front e
    skipped out k = record { before = z ∷ k.before; after = k.after; all_is = ap (λ xs. z ∷ xs) k.all_is; kept = λ x shown has. by_has x shown has }
      where
        no_both : true ≡ false → ⊥
        no_both both = cc

        by_has : (x : Event) → test x ≡ true → Has (z ∷ k.before) x → Has front x
        by_has x shown (inl same) = absurd (no_both (sym shown ∙ ap test same ∙ out))
        by_has x shown (inr has) = k.kept x shown has

    first : ((front : List Event) → filter test zs ≡ front ++ e ∷ back → IsKeptFrom test zs front e) → (front : List Event) → z ∷ filter test zs ≡ front ++ e ∷ back → IsKeptFrom test (z ∷ zs) front e
    first again [] is = record { before = []; after = zs; all_is = ap (λ x. x ∷ zs) (heads z e (filter test zs) back is).0; kept = λ x shown has. absurd has }
    first again (y ∷ rest) is =
        let parts = heads z y (filter test zs) (rest ++ e ∷ back) is in
        let k = again rest parts.1 in
        record { before = z ∷ k.before; after = k.after; all_is = ap (λ xs. z ∷ xs) k.all_is; kept = λ x shown has. by_has parts.0 k x shown has }
      where
        by_has : z ≡ y → (k : IsKeptFrom test zs rest e) → (x : Event) → test x ≡ true → Has (z ∷ k.before) x → Has (y ∷ rest) x
        by_has same k x shown (inl is) = inl (is ∙ same)
        by_has same k x shown (inr has) = inr (k.kept x shown has)

    go : ((front : List Event) → filter test zs ≡ front ++ e ∷ back → IsKeptFrom test zs front e) → (b : Bool) → test z ≡ b → cond b (z ∷ filter test zs) (filter test zs) ≡ front ++ e ∷ back → IsKeptFrom test (z ∷ zs) front e
    go again true in_it is = first again front is
    go again false out is = skipped out (again front is)

cut_front : (old xs ys : List Event) → old ++ xs ≡ old ++ ys → xs ≡ ys
cut_front [] xs ys is = is
cut_front (e ∷ old) xs ys is = cut_front old xs ys (heads e e (old ++ xs) (old ++ ys) is).1

-- what a log gained of the events of a mesh, by a test that shows all aliases
pub gains_are_right : (queries : Mac → Queries) (before after : Mesh) (more old new : List Event) (test : Event → Bool) → AllKeep queries → IsReachable queries after → after.events ≡ before.events ++ more
    → ((orig : Mac) (number earlier : ℕ) → test (Alias orig number earlier) ≡ true) → new ≡ old ++ filter test more → GainsAreRight queries before after old new
gains_are_right queries before after more old new test keep r events shows gained orig none front back number moment me next bytes is clear =
    let e : Event = FrameSent number moment me next (Some Table) bytes in
    let k = kept_from test more front e back (cut_front old (filter test more) (front ++ e ∷ back) (sym gained ∙ is ∙ append_assoc old front (e ∷ back))) in
    events_by_table_are_right queries keep after r orig (before.events ++ k.before) k.after number moment me next bytes
    (events ∙ ap (λ es. before.events ++ es) k.all_is ∙ sym (append_assoc before.events k.before (e ∷ k.after)))
    (λ n earlier told. either k n earlier (has_either before.events k.before (Alias orig n earlier) told))
  where
    either : (k : IsKeptFrom test more front (FrameSent number moment me next (Some Table) bytes)) → (n earlier : ℕ) → Has before.events (Alias orig n earlier) ⊎ Has k.before (Alias orig n earlier) → ⊥
    either k n earlier (inl told) = none n earlier told
    either k n earlier (inr told) = clear n earlier (k.kept (Alias orig n earlier) (shows orig n earlier) told)
