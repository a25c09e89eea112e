-- How facts are pushed in a round, and how a question goes to a primary.
use Rattle.std.proofs.Common.{◌≡◌, ◌<◌, ℕ, suc, ◌+◌, ◌&&◌, Bool, true, false, List, [], ◌∷◌, length, refl, ap, subst, ◌∙◌, arith, rules, Option, Some, Result}
use Rattle.std.specs.Prelude.{◌%◌, ◌^◌, is_some, if◌then◌else◌}
use Rattle.std.proofs.Math.Nat.{mod-add-mod}
use Rattle.alfred_store.specs.StoreStands.{StoreStands, store_in}
use Rattle.alfred_store.specs.declared.store.Store.{Store}
use Rattle.mesh_base.specs.declared.address.Mac.{Mac}
use Rattle.mesh_model.specs.declared.act.Act.{Act}
use Rattle.mesh_model.specs.declared.ending.LimitName.{LimitName}
use Rattle.mesh_model.specs.declared.service.Fact.{Fact}
use Rattle.mesh_model.specs.Acts.BridgeRows.{Place}
use Rattle.mesh_model.specs.Acts.FactRows.{messages_to, push_acts, pushed_to, request_to}
use Rattle.mesh_model.specs.Knowledge.FactStore.{after_asking_for, chosen_primary, ids, next_id, with_ids}
use Rattle.mesh_model.specs.Knowledge.Known.{Knowledge}
use Rattle.mesh_model.specs.Packets.FactMessages.{Requests}
use Rattle.mesh_model.specs.Routes.Queries.{Queries}
use Rattle.mesh_model.specs.Routes.RouteLog.{RouteLog}
use Rattle.mesh_model.specs.Services.Parts.{transaction_messages}
use Rattle.node_facts.specs.Pushes.{pushes_of}
use Rattle.node_ground.specs.declared.failure.NodeErr.{NodeErr}
use Rattle.node_ground.specs.declared.knowledge.NodeKnowledge.{NodeKnowledge}
use Rattle.node_ground.specs.KnowledgeStands.{KnowledgeStands}
use Rattle.node_ground.specs.Puts.{Puts, StopsAt, TakesAll}
use Rattle.node_ground.proofs.PutsLemmas.{puts_behind, stops_among}
use Rattle.node_facts.proofs.KeptLemmas.{stands_with}

-- the next id behind so many
pub id_behind : (taken count : ℕ) → taken ≡ count % ids → (taken + 1) % ids ≡ suc count % ids
id_behind taken count is = ap (λ t. (t + 1) % ids) is ∙ mod-add-mod count ids 1 ∙ ap (λ n. n % ids) (more count)
  where
    more : (n : ℕ) → n + 1 ≡ suc n
    more n = omega arith

module _ {P : Type 0} (takes : P → Act → P → Type 0) (same : P → P → Type 0) (over : P → Act → Option LimitName)
    (q : Queries) (known : Knowledge) (at : Place) (facts : List Fact) (count id : ℕ) (first : Mac) (rest nodes : List Mac) where
  -- it stops at the first of the nodes
  pub push_stops : (error : NodeErr) (old new : P) → id ≡ suc count % ids → first ∷ rest ≡ nodes
      → StopsAt takes same over error old (messages_to q known at first (transaction_messages true id facts)) new → StopsAt takes same over error old (pushed_to q known at facts count nodes) new
  push_stops error old new is are stop =
      subst (λ nodes. StopsAt takes same over error old (pushed_to q known at facts count nodes) new) are
      (stops_among takes same over error old new (messages_to q known at first (transaction_messages true (suc count % ids) facts)) (pushed_to q known at facts (suc count) rest)
      (subst (λ i. StopsAt takes same over error old (messages_to q known at first (transaction_messages true i facts)) new) is stop))

  -- it goes on behind the first
  pub push_goes_on : (old mid new : P) (result : Result Unit NodeErr) → id ≡ suc count % ids → first ∷ rest ≡ nodes
      → TakesAll takes over old (messages_to q known at first (transaction_messages true id facts)) mid → Puts takes same over mid (pushed_to q known at facts (suc count) rest) result new
      → Puts takes same over old (pushed_to q known at facts count nodes) result new
  push_goes_on old mid new result is are all puts =
      subst (λ nodes. Puts takes same over old (pushed_to q known at facts count nodes) result new) are
      (puts_behind takes same over old mid new (messages_to q known at first (transaction_messages true (suc count % ids) facts)) (pushed_to q known at facts (suc count) rest) result
      (subst (λ i. TakesAll takes over old (messages_to q known at first (transaction_messages true i facts)) mid) is all) puts)

-- the count of broadcasts, and one more
pub counted_on : (kept sent : ℕ) → kept ≡ sent % 2 ^ 32 → (kept + 1) % 2 ^ 32 ≡ suc sent % 2 ^ 32
counted_on kept sent is = ap (λ t. (t + 1) % 2 ^ 32) is ∙ mod-add-mod sent (2 ^ 32) 1 ∙ ap (λ n. n % 2 ^ 32) (more sent)
  where
    more : (n : ℕ) → n + 1 ≡ suc n
    more n = omega arith

-- after a round of a primary
pub primary_stands : {A : Type 0} (stands : A → Mac → RouteLog → Type 0) (kept : NodeKnowledge A) (sent : ℕ) (store : Store) (me : Mac) (known : Knowledge) (count all : ℕ)
    → KnowledgeStands stands kept me known → sent ≡ suc known.sent % 2 ^ 32 → count ≡ all → StoreStands store me (store_in (with_ids count known))
    → KnowledgeStands stands (record kept { sent = sent; services = record kept.services { store = store } }) me (with_ids all (record known { sent = suc known.sent }))
primary_stands stands kept sent store me known count all is counted same stored = stands_with stands (record kept { sent = sent }) store me (record known { sent = suc known.sent }) (with_ids all (record known { sent = suc known.sent })) refl (record {
  routes = is.routes;
  tables = is.tables;
  marks = is.marks;
  probes = is.probes;
  taken = is.taken;
  parts = is.parts;
  sent = counted;
  services = is.services;
}) (subst (λ n. StoreStands store me (store_in (with_ids n known))) same stored)

-- facts of which there are some are pushed to each of the nodes
pub pushed_each : (q : Queries) (known : Knowledge) (at : Place) (facts : List Fact) (nodes : List Mac) → 0 < length facts → pushed_to q known at facts known.services.ids nodes ≡ push_acts q known at facts nodes
pushed_each q known at [] nodes some = absurd (omega (arith, some))
pushed_each q known at (fact ∷ facts) nodes some = search rules

-- and so many pushes there are
pub pushes_each : (facts : List Fact) (nodes : List Mac) → 0 < length facts → length nodes ≡ pushes_of facts nodes
pushes_each [] nodes some = absurd (omega (arith, some))
pushes_each (fact ∷ facts) nodes some = search rules

-- one or none
abbrev one_if : Bool → ℕ
one_if some = if some then 1 else 0

-- how many pushes a secondary makes, where it has a primary
pub secondary_pushes : (some : Bool) (primary : Mac) (chosen : Option Mac) → Some primary ≡ chosen → one_if some ≡ one_if (some && is_some chosen)
secondary_pushes true primary chosen is = ap (λ (o : Option Mac). one_if (is_some o)) is
secondary_pushes false primary chosen is = refl

-- a question that goes to the chosen primary
pub asked_of : (q : Queries) (known : Knowledge) (at : Place) (type_no id : ℕ) (primary : Mac) → Some primary ≡ chosen_primary q known at.now → id ≡ next_id known.services
    → messages_to q (after_asking_for type_no (Some primary) known) at primary (Requests id type_no ∷ []) ≡ request_to q known at type_no (chosen_primary q known at.now)
asked_of q known at type_no id primary chosen is = ap (λ i. messages_to q known at primary (Requests i type_no ∷ [])) is ∙ ap (request_to q known at type_no) chosen
