-- How what a node keeps goes on to stand for what it knows, once the store changed.
use Rattle.std.proofs.Common.{◌≡◌, ℕ, Bool, true, false, cond, List, [], ◌∷◌, ◌++◌, refl, sym, ap, ap₂, subst, ◌∙◌, Option, Some, None}
use Rattle.std.specs.Prelude.{◌^◌, ◌%◌}
use Rattle.std.proofs.lemmas.Bool.{false≢true}
use Rattle.alfred_store.specs.Answers.{Answered, answer_to, answer_with}
use Rattle.alfred_store.specs.StoreStands.{StoreStands, store_in}
use Rattle.alfred_store.specs.declared.store.Store.{Store}
use Rattle.mesh_base.specs.declared.address.Mac.{Mac}
use Rattle.mesh_base.specs.declared.client.Entry.{Entry}
use Rattle.mesh_model.specs.declared.line_form.AlfredMode.{AlfredMode}
use Rattle.mesh_model.specs.declared.line_form.AlfredMode.TheVariants.{Off, Primary as IsPrimary, Secondary}
use Rattle.mesh_model.specs.declared.service.Fact.{Fact}
use Rattle.mesh_model.specs.Acts.BridgeRows.{Place}
use Rattle.mesh_model.specs.Acts.FactRows.{answer_told, answering_acts, brought_acts, whole_answer}
use Rattle.mesh_model.specs.Clients.Settings.{Settings}
use Rattle.mesh_model.specs.Fragments.Assembly.{PartCall}
use Rattle.mesh_model.specs.Knowledge.FactStore.{after_announced, after_answering, after_brought, after_closing, after_push, after_put, after_whole_push, closed_by, open_request, with_fact, with_facts, with_primary}
use Rattle.mesh_model.specs.Knowledge.Known.{Knowledge, TakenBroadcast}
use Rattle.mesh_model.specs.Knowledge.OwnPictures.{put_pictures, puts_picture, with_picture}
use Rattle.mesh_model.specs.Knowledge.Served.{FactRequest, Offered, Services}
use Rattle.mesh_model.specs.Marks.Calls.{Calls}
use Rattle.mesh_model.specs.Probes.OpenProbes.{ProbeCall}
use Rattle.mesh_model.specs.Packets.Pictures.{picture_spelling}
use Rattle.mesh_model.specs.Routes.Queries.{Queries}
use Rattle.mesh_model.specs.Routes.RouteLog.{RouteLog}
use Rattle.mesh_model.specs.Services.ArpTable.{Learned, PairCall}
use Rattle.mesh_model.specs.Services.Facts.{CameFrom, FactCall, WasPut}
use Rattle.mesh_model.specs.Services.Pictures.{own_picture, picture_fact, picture_type, picture_version}
use Rattle.mesh_model.specs.Services.Transactions.{TxnCall, made_whole}
use Rattle.mesh_model.specs.Tables.Known.{TableCalls}
use Rattle.mesh_dat.specs.Cache.{CacheStands}
use Rattle.mesh_frag.specs.Frags.{FragsStand}
use Rattle.mesh_icmp.specs.Sessions.{StandsFor as SessionsStand}
use Rattle.mesh_serv.specs.OffersStand.{OffersStand}
use Rattle.node_facts.specs.Messages.{answer_acts, takes}
use Rattle.node_ground.specs.declared.knowledge.NodeKnowledge.{NodeKnowledge}
use Rattle.node_ground.specs.AsksStand.{AsksStand}
use Rattle.node_ground.specs.BroadcastsStand.{BroadcastsStand}
use Rattle.node_ground.specs.KnowledgeStands.{KnowledgeStands}
use Rattle.tt_global.specs.Globals.{GlobalsStand}
use Rattle.tt_sync.specs.Sync.{StandsFor as MarksStand}

-- what a node knows besides the store
pub record Beside : Type 0 where
  pub routes : RouteLog
  pub tables : TableCalls
  pub marks : Calls
  pub probes : List ProbeCall
  pub taken : List TakenBroadcast
  pub parts : List PartCall
  pub sent : ℕ
  pub settings : Settings
  pub offers : List Offered
  pub choice : Option Mac
  pub learned : List Learned
  pub asks : List PairCall

abbrev pub beside : Knowledge → Beside
beside known = record {
  routes = known.routes;
  tables = known.tables;
  marks = known.marks;
  probes = known.probes;
  taken = known.taken;
  parts = known.parts;
  sent = known.sent;
  settings = known.services.settings;
  offers = known.services.offers;
  choice = known.services.choice;
  learned = known.services.learned;
  asks = known.services.asks;
}

-- with a store that stands for what is known of it, all stands where the rest is as before
pub stands_with : {A : Type 0} (stands : A → Mac → RouteLog → Type 0) (kept : NodeKnowledge A) (store : Store) (me : Mac) (known after : Knowledge) → beside after ≡ beside known
    → KnowledgeStands stands kept me known → StoreStands store me (store_in after) → KnowledgeStands stands (record kept { services = record kept.services { store = store } }) me after
stands_with stands kept store me known after same is stored = by_parts (sym same)
  where
    by_parts : beside known ≡ beside after → KnowledgeStands stands (record kept { services = record kept.services { store = store } }) me after
    by_parts same = record {
      routes = subst (stands kept.algo me) (ap (λ (b : Beside). b.routes) same) is.routes;
      tables = subst (λ (b : Beside). GlobalsStand kept.globals b.tables) same is.tables;
      marks = subst (λ (b : Beside). MarksStand kept.sync b.marks) same is.marks;
      probes = subst (λ (b : Beside). SessionsStand kept.sessions b.probes) same is.probes;
      taken = subst (λ (b : Beside). BroadcastsStand kept.broadcasts b.taken) same is.taken;
      parts = subst (λ (b : Beside). FragsStand kept.frags b.parts) same is.parts;
      sent = is.sent ∙ ap (λ (b : Beside). b.sent % 2 ^ 32) same;
      services = record {
        settings = is.services.settings ∙ ap (λ (b : Beside). b.settings) same;
        offers = subst (λ (b : Beside). OffersStand kept.services.offers b.offers) same is.services.offers;
        choice = is.services.choice ∙ ap (λ (b : Beside). b.choice) same;
        cache = subst (λ (b : Beside). CacheStands kept.services.cache b.learned) same is.services.cache;
        asks = subst (λ (b : Beside). AsksStand kept.services.asks b.asks) same is.services.asks;
        store = stored;
      };
    }

-- what is kept stands for what is the same
pub stands_as : {A : Type 0} (stands : A → Mac → RouteLog → Type 0) (kept : NodeKnowledge A) (me : Mac) (known after : Knowledge) → known ≡ after → KnowledgeStands stands kept me known → KnowledgeStands stands kept me after
stands_as stands kept me known after same is = subst (KnowledgeStands stands kept me) same is

-- ---- pictures
-- facts that stand for those that came, with the calls that a picture is put by
with_facts_of : {A : Type 0} (stands : A → Mac → RouteLog → Type 0) (q : Queries) (kept : NodeKnowledge A) (me : Mac) (now index : ℕ) (table : List Entry) (known : Knowledge) (calls : List FactCall)
    → KnowledgeStands stands kept me (record known { services = record known.services { facts = calls } }) → calls ≡ put_pictures q me now index table known ++ known.services.facts
    → KnowledgeStands stands kept me (with_picture q me now index table known)
with_facts_of stands q kept me now index table known calls is same = subst (λ (cs : List FactCall). KnowledgeStands stands kept me (record known { services = record known.services { facts = cs } })) same is

-- where no picture is put, all stands as before
pub not_pictured : {A : Type 0} (stands : A → Mac → RouteLog → Type 0) (q : Queries) (kept : NodeKnowledge A) (me : Mac) (now index : ℕ) (table : List Entry) (known : Knowledge)
    → puts_picture known.services.settings index ≡ false → KnowledgeStands stands kept me known → KnowledgeStands stands kept me (with_picture q me now index table known)
not_pictured stands q kept me now index table known puts is =
    with_facts_of stands q kept me now index table known known.services.facts is
    (sym (ap (λ (b : Bool). cond b (WasPut now (picture_fact me (own_picture q known.routes now table)) ∷ []) [] ++ known.services.facts) puts))

-- where the picture is put, it is one more fact
pub pictured : {A : Type 0} (stands : A → Mac → RouteLog → Type 0) (q : Queries) (kept : NodeKnowledge A) (me : Mac) (now index : ℕ) (table : List Entry) (known : Knowledge) (bytes : List ℕ)
    → puts_picture known.services.settings index ≡ true → bytes ≡ picture_spelling (own_picture q known.routes now table)
    → KnowledgeStands stands kept me (after_put me now picture_type picture_version bytes known) → KnowledgeStands stands kept me (with_picture q me now index table known)
pictured stands q kept me now index table known bytes puts spelled is =
    with_facts_of stands q kept me now index table known
    (WasPut now (record { source = me; type_no = picture_type; version = picture_version; bytes = bytes }) ∷ known.services.facts) is
    (ap (λ (bs : List ℕ). WasPut now (record { source = me; type_no = picture_type; version = picture_version; bytes = bs }) ∷ known.services.facts) spelled
    ∙ sym (ap (λ (b : Bool). cond b (WasPut now (picture_fact me (own_picture q known.routes now table)) ∷ []) [] ++ known.services.facts) puts))

-- ---- transactions
facts_beside : (now : ℕ) (sender : Mac) (facts : List Fact) (known : Knowledge) → beside (with_facts now sender facts known) ≡ beside known
facts_beside now sender [] known = refl
facts_beside now sender (fact ∷ facts) known = facts_beside now sender facts (with_fact (CameFrom now sender fact) known)

whole_beside : (now : ℕ) (sender : Mac) (o : Option (List Fact)) (known : Knowledge) → beside (after_whole_push now sender o known) ≡ beside known
whole_beside now sender None known = refl
whole_beside now sender (Some facts) known = facts_beside now sender facts known

-- after a message of a push
push_beside : (call : TxnCall) (known : Knowledge) → beside (after_push call known) ≡ beside known
push_beside call known = whole_beside call.moment call.sender (made_whole call known.services.pushes) (record known {
  services = record known.services { pushes = call ∷ known.services.pushes };
})

closing_beside : (o : Option FactRequest) (known : Knowledge) → beside (after_closing o known) ≡ beside known
closing_beside None known = refl
closing_beside (Some request) known = refl

-- after a message of an answer
answering_beside : (call : TxnCall) (known : Knowledge) → beside (after_answering call known) ≡ beside known
answering_beside call known = closing_beside (closed_by call known.services) (record known {
  services = record known.services { answers = call ∷ known.services.answers };
})

-- what answers a request is what is printed
answer_is : (services : Services) (at : Place) (call : TxnCall) (answer : Option Answered) → answer ≡ answer_to call services → answer_acts at answer ≡ answering_acts services at call
answer_is services at call answer is = ap (answer_acts at) is ∙ go (made_whole call services.answers)
  where
    told : (facts : List Fact) (request : Option FactRequest) → answer_acts at (answer_with request (Some facts)) ≡ answer_told at facts request
    told facts None = refl
    told facts (Some request) = refl

    go : (facts : Option (List Fact)) → answer_acts at (answer_with (open_request services.requests call.sender call.id) facts) ≡ whole_answer services at call facts
    go None = refl
    go (Some facts) = told facts (open_request services.requests call.sender call.id)

-- ---- announcements

-- a primary that announced itself is noted by a node with a part in the store
pub announced_at : (mode : AlfredMode) (now : ℕ) (mac : Mac) (known : Knowledge) → (mode ≡ Off → ⊥) → with_primary now mac known ≡ after_announced mode now mac known
announced_at Off now mac known part = absurd (part refl)
announced_at IsPrimary now mac known part = refl
announced_at Secondary now mac known part = refl

-- ---- messages of transactions

-- a push that is taken comes to a primary
pushed_at : (mode : AlfredMode) (push : Bool) (call : TxnCall) (known : Knowledge) → takes mode push ≡ true → push ≡ true → after_push call known ≡ after_brought mode push call known
pushed_at Off push call known takes is = absurd (false≢true takes)
pushed_at IsPrimary true call known takes is = refl
pushed_at IsPrimary false call known takes is = absurd (false≢true is)
pushed_at Secondary true call known takes is = absurd (false≢true takes)
pushed_at Secondary false call known takes is = absurd (false≢true is)

-- a push that is taken prints nothing
pub silent_at : (mode : AlfredMode) (push : Bool) (services : Services) (at : Place) (call : TxnCall) → push ≡ true → brought_acts mode services at push call ≡ []
silent_at Off push services at call is = refl
silent_at IsPrimary true services at call is = refl
silent_at IsPrimary false services at call is = absurd (false≢true is)
silent_at Secondary true services at call is = refl
silent_at Secondary false services at call is = absurd (false≢true is)

-- an answer that is taken may close a request
answered_at : (mode : AlfredMode) (push : Bool) (call : TxnCall) (known : Knowledge) → takes mode push ≡ true → push ≡ false → after_answering call known ≡ after_brought mode push call known
answered_at Off push call known takes is = absurd (false≢true takes)
answered_at IsPrimary true call known takes is = absurd (false≢true (sym is))
answered_at IsPrimary false call known takes is = refl
answered_at Secondary true call known takes is = absurd (false≢true (sym is))
answered_at Secondary false call known takes is = refl

-- and is printed then
told_at : (mode : AlfredMode) (push : Bool) (services : Services) (at : Place) (call : TxnCall) → takes mode push ≡ true → push ≡ false → answering_acts services at call ≡ brought_acts mode services at push call
told_at Off push services at call takes is = absurd (false≢true takes)
told_at IsPrimary true services at call takes is = absurd (false≢true (sym is))
told_at IsPrimary false services at call takes is = refl
told_at Secondary true services at call takes is = absurd (false≢true (sym is))
told_at Secondary false services at call takes is = refl

-- a message of a transaction that a node takes, by the part in the store that it keeps
module _ {A : Type 0} (stands : A → Mac → RouteLog → Type 0) (kept : NodeKnowledge A) (me : Mac) (known : Knowledge) (is : KnowledgeStands stands kept me known)
    (push : Bool) (taken : takes kept.services.settings.fact_store push ≡ true) (came call : TxnCall) (same : came ≡ call) where
  -- by what is known
  by_known : {X : Type 0} (f : AlfredMode → TxnCall → X) → f kept.services.settings.fact_store came ≡ f known.services.settings.fact_store call
  by_known f = ap₂ f (ap (λ (s : Settings). s.fact_store) is.services.settings) same

  -- after one of a push
  pub pushed_stands : (store : Store) → push ≡ true → StoreStands store me (store_in (after_push came known))
      → KnowledgeStands stands (record kept { services = record kept.services { store = store } }) me (after_brought known.services.settings.fact_store push call known)
  pushed_stands store is_push stored =
      stands_as stands _ me _ _ (pushed_at kept.services.settings.fact_store push came known taken is_push ∙ by_known (λ mode call. after_brought mode push call known))
      (stands_with stands kept store me known (after_push came known) (push_beside came known) is stored)

  -- after one of an answer
  pub answered_stands : (store : Store) → push ≡ false → StoreStands store me (store_in (after_answering came known))
      → KnowledgeStands stands (record kept { services = record kept.services { store = store } }) me (after_brought known.services.settings.fact_store push call known)
  answered_stands store answers stored =
      stands_as stands _ me _ _ (answered_at kept.services.settings.fact_store push came known taken answers ∙ by_known (λ mode call. after_brought mode push call known))
      (stands_with stands kept store me known (after_answering came known) (answering_beside came known) is stored)

  -- what one of an answer prints
  pub answer_printed : (at : Place) (answer : Option Answered) → push ≡ false → answer ≡ answer_to came known.services
      → answer_acts at answer ≡ brought_acts known.services.settings.fact_store known.services at push call
  answer_printed at answer answers told =
      answer_is known.services at came answer told ∙ told_at kept.services.settings.fact_store push known.services at came taken answers
      ∙ by_known (λ mode call. brought_acts mode known.services at push call)
