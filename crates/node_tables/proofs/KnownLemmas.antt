-- What is known once an announcement came.
use Rattle.std.proofs.Common.{◌≡◌, ℕ, Bool, true, false, List, ◌∷◌, refl, sym, ap, ap₂, ◌∙◌, Option, Some, None}
use Rattle.std.specs.Prelude.{is_some, is_none, option_map, ◌&&◌, if◌then◌else◌}
use Rattle.std.proofs.lemmas.Option.{same_Some}
use Rattle.mesh_base.specs.declared.address.Mac.{Mac}
use Rattle.mesh_model.specs.declared.table_outcome.Request.{Request}
use Rattle.mesh_model.specs.declared.table_change.Change.{Change}
use Rattle.mesh_model.specs.Knowledge.Known.{Knowledge, agreed_byte}
use Rattle.mesh_model.specs.Knowledge.Steps.{Coming, after_announcement, after_answer, asked_by_request, may_ask, released_under, request_out, with_head, with_offered}
use Rattle.mesh_model.specs.Knowledge.Served.{offer_in}
use Rattle.mesh_model.specs.Knowledge.Told.{Answers, Neither, message_changes, part_told, stamp_told, sums_told}
use Rattle.mesh_model.specs.Marks.Calls.{Calls}
use Rattle.mesh_model.specs.Marks.Requests.{too_soon}
use Rattle.mesh_model.specs.Packets.Bodies.{TtData, TtPart}
use Rattle.mesh_model.specs.Packets.Containers.{containers_of}
use Rattle.mesh_model.specs.declared.packet.Head.{Head}
use Rattle.mesh_model.specs.Packets.Numbers.{full_table_flag, response_flag}
use Rattle.mesh_model.specs.Routes.Ogm.{has_flag}
use Rattle.mesh_model.specs.Routes.Queries.{Queries}
use Rattle.mesh_model.specs.Routes.RouteLog.{RouteLog, HeadCame}
use Rattle.node_ground.specs.declared.knowledge.NodeKnowledge.{NodeKnowledge}
use Rattle.node_ground.specs.KnowledgeStands.{KnowledgeStands}
use Rattle.node_ground.proofs.StandsLemmas.{with_algo, with_services}
use Rattle.mesh_model.specs.Tables.Judging.{InPart, announcement_row, wanted_request}
use Rattle.mesh_model.specs.Tables.Known.{Announced, Answered, TableCalls, known_by}
use Rattle.mesh_model.specs.Tables.Versions.{Stamp}
use Rattle.mesh_serv.specs.OffersStand.{OffersStand}
use Rattle.mesh_serv.specs.declared.offers.Offer.{Offer}
use Rattle.mesh_tvlv.specs.Translation.{table_and_place}
use Rattle.node_ground.specs.Reading.{Tells, message}
use Rattle.node_tables.specs.AnswerKinds.{carried_by}
use Rattle.node_tables.specs.declared.answers.AnswerKind.{AnswerKind}
use Rattle.tt_global.specs.Globals.{GlobalsStand, Kept}
use Rattle.tt_global.specs.Kept.{stamp, stamp_in}
use Rattle.tt_table.specs.Sums.{SumsView, named_sums}
use Rattle.tt_table.specs.declared.announcement.Announcement.{Announcement}

-- a release changes no moment of asking
release_asks : (now : ℕ) (target orig : Mac) (byte : Option ℕ) (calls : Calls) → too_soon now (released_under target byte calls) orig ≡ too_soon now calls orig
release_asks now target orig None calls = refl
release_asks now target orig (Some byte) calls = refl

-- what is known once these changes were announced under a byte and sums, before anything is asked
abbrev pub told_more : Mac → ℕ → Stamp → List Change → Knowledge → Knowledge
told_more orig number stamp changes known = record known {
  tables = Announced orig number stamp changes ∷ known.tables;
}

-- the marks that are answered by what was announced end
abbrev pub released_more : Mac → Knowledge → Knowledge
released_more orig known = record known { marks = released_under orig (agreed_byte (known_by known.tables orig)) known.marks }

-- what goes out, where it is wanted by what was announced
pub asked_out : (q : Queries) (now : ℕ) (orig : Mac) (number : ℕ) (announced : Announcement) (table : TtData) (known : Knowledge) (wanted request : Option Request) → Tells announced table
    → wanted ≡ wanted_request (announcement_row (known_by known.tables orig).held (stamp_in announced) announced.changes).outcome
    → request ≡ (if may_ask q (released_more orig (told_more orig number (stamp_in announced) announced.changes known)) now orig then wanted else None)
    → request ≡ request_out q known now (message orig table)
asked_out q now orig number announced table known wanted request tells is asked =
    let soon = release_asks now orig orig (agreed_byte (known_by (Announced orig number (stamp_in announced) announced.changes ∷ known.tables) orig)) known.marks in
    let may = ap (λ recent. is_some (q.route known.routes now orig) && is_none recent) soon in
    asked ∙ ap (λ b. if b then wanted else None) may
    ∙ ap (λ w. if may_ask q known now orig then w else None)
    (is ∙ ap (λ s. wanted_request (announcement_row (known_by known.tables orig).held s announced.changes).outcome) tells.stamp
    ∙ ap (λ cs. wanted_request (announcement_row (known_by known.tables orig).held (stamp_told table) cs).outcome) tells.changes)

-- what is known then
pub announced_is : (q : Queries) (came : Coming) (orig : Mac) (announced : Announcement) (table : TtData) (known : Knowledge) (request : Option Request) → Tells announced table
    → request ≡ request_out q known came.now (message orig table)
    → (let told = released_more orig (told_more orig came.number (stamp_in announced) announced.changes known) in
    record told { marks = asked_by_request came.now orig request told.marks })
    ≡ after_announcement q came (message orig table) known
announced_is q came orig announced table known request tells is =
    let whole : Stamp → List Change → Option Request → Knowledge = λ s cs r.
    let told = released_more orig (told_more orig came.number s cs known) in record told { marks = asked_by_request came.now orig r told.marks } in
    ap (λ s. whole s announced.changes request) tells.stamp ∙ ap (λ cs. whole (stamp_told table) cs request) tells.changes ∙ ap (λ r. whole (stamp_told table) (message_changes table) r) is

-- a translation table that has a byte and names sums that are told as they are, tells these
pub told_stamp : (table : TtData) (byte : ℕ) (sums : SumsView) → (table.ttvn ≡ byte) × (table.vlans ≡ named_sums sums) → sums_told (named_sums sums) ≡ named_sums sums → stamp byte sums ≡ stamp_told table
told_stamp table byte sums is as_told = sym (ap₂ (λ b s. record { byte = b; sums = s }) is.0 (ap sums_told is.1 ∙ as_told))

-- where nothing is wanted, nothing goes out, and only marks end
either_way : (request : Option Request) (b : Bool) → (if b then request else request) ≡ request
either_way request true = refl
either_way request false = refl

pub nothing_out : (q : Queries) (now : ℕ) (orig : Mac) (table : TtData) (known : Knowledge)
    → wanted_request (announcement_row (known_by known.tables orig).held (stamp_told table) (message_changes table)).outcome ≡ None → request_out q known now (message orig table) ≡ None
nothing_out q now orig table known unwanted = ap (λ w. if may_ask q known now orig then w else None) unwanted ∙ either_way None (may_ask q known now orig)

pub unasked_is : (q : Queries) (came : Coming) (orig : Mac) (table : TtData) (known : Knowledge)
    → wanted_request (announcement_row (known_by known.tables orig).held (stamp_told table) (message_changes table)).outcome ≡ None
    → released_more orig (told_more orig came.number (stamp_told table) (message_changes table) known) ≡ after_announcement q came (message orig table) known
unasked_is q came orig table known unwanted =
    let told : Knowledge = released_more orig (told_more orig came.number (stamp_told table) (message_changes table) known) in
    ap (λ (r : Option Request). record told { marks = asked_by_request came.now orig r told.marks }) (sym (nothing_out q came.now orig table known unwanted))

-- once the algorithm was given a head
pub head_came : {A : Type 0} (stands : A → Mac → RouteLog → Type 0) (kept : NodeKnowledge A) (algo : A) (me : Mac) (came : Coming) (head : Head) (known : Knowledge) → KnowledgeStands stands kept me known
    → stands algo me (HeadCame came.now came.from came.throughput head ∷ known.routes) → KnowledgeStands stands (record kept { algo = algo }) me (with_head came head known)
head_came stands kept algo me came head known is noted = with_algo stands kept me known is algo (HeadCame came.now came.from came.throughput head ∷ known.routes) noted

-- once it was noted what a message offers
pub offer_noted : {A : Type 0} (stands : A → Mac → RouteLog → Type 0) (kept : NodeKnowledge A) (offers : List (Mac × Offer)) (me orig : Mac) (tail : List ℕ) (known : Knowledge) → KnowledgeStands stands kept me known
    → OffersStand offers (record { orig = orig; offer = offer_in (containers_of tail) } ∷ known.services.offers)
    → KnowledgeStands stands (record kept { services = record kept.services { offers = offers } }) me (with_offered true orig tail known)
offer_noted stands kept offers me orig tail known is noted = with_services stands kept me known is (record kept.services { offers = offers }) (with_offered true orig tail known).services (record {
  settings = is.services.settings;
  offers = noted;
  choice = is.services.choice;
  cache = is.services.cache;
  asks = is.services.asks;
  store = is.services.store;
})

-- the part in containers, by its table, its number and how many there are
part_from : (o : Option TtPart) (table : TtData) (number count : ℕ) → Some (table, number, count) ≡ option_map table_and_place o → o ≡ Some (record { table = table; number = number; count = count })
part_from None table number count is = absurd cc
part_from (Some part) table number count is =
    ap (λ (p : TtData × ℕ × ℕ). Some (record { table = p.0; number = p.1; count = p.2 })) (sym (same_Some (table, number, count) (table_and_place part) is))

none_from : (o : Option TtPart) → None ≡ option_map table_and_place o → o ≡ None
none_from None is = refl
none_from (Some part) is = absurd cc

-- what is known once a part came, where it is one of an answer with a whole table, and where it isn't
pub part_taken : (q : Queries) (now : ℕ) (orig : Mac) (o : Option TtPart) (table : TtData) (number count : ℕ) (known : Knowledge) → Some (table, number, count) ≡ option_map table_and_place o
    → (has_flag response_flag table.flags && has_flag full_table_flag table.flags) ≡ true
    → after_answer q now orig (Answers (stamp_told table) (InPart number count (message_changes table))) known ≡ after_answer q now orig (part_told o) known
part_taken q now orig o table number count known is flags =
    ap (λ b. after_answer q now orig (if b then Answers (stamp_told table) (InPart number count (message_changes table)) else Neither) known) (sym flags)
    ∙ ap (λ p. after_answer q now orig (part_told p) known) (sym (part_from o table number count is))

pub part_passed : (q : Queries) (now : ℕ) (orig : Mac) (o : Option TtPart) (table : TtData) (number count : ℕ) (known : Knowledge) → Some (table, number, count) ≡ option_map table_and_place o
    → (has_flag response_flag table.flags && has_flag full_table_flag table.flags) ≡ false → known ≡ after_answer q now orig (part_told o) known
part_passed q now orig o table number count known is flags =
    ap (λ b. after_answer q now orig (if b then Answers (stamp_told table) (InPart number count (message_changes table)) else Neither) known) (sym flags)
    ∙ ap (λ p. after_answer q now orig (part_told p) known) (sym (part_from o table number count is))

pub no_part : (q : Queries) (now : ℕ) (orig : Mac) (o : Option TtPart) (known : Knowledge) → None ≡ option_map table_and_place o → known ≡ after_answer q now orig (part_told o) known
no_part q now orig o known is = ap (λ p. after_answer q now orig (part_told p) known) (sym (none_from o is))

-- once more came for the tables
pub with_tables : {A : Type 0} (stands : A → Mac → RouteLog → Type 0) (kept : NodeKnowledge A) (globals : Kept) (me : Mac) (calls : TableCalls) (known : Knowledge) → KnowledgeStands stands kept me known
    → GlobalsStand globals calls → KnowledgeStands stands (record kept { globals = globals }) me (record known { tables = calls })
with_tables stands kept globals me calls known is noted = record {
  routes = is.routes;
  tables = noted;
  marks = is.marks;
  probes = is.probes;
  taken = is.taken;
  parts = is.parts;
  sent = is.sent;
  services = is.services;
}

-- what is known once an answer of a kind came, with the byte, the sums and the changes that it tells
pub answered_is : (q : Queries) (now : ℕ) (orig : Mac) (kind : AnswerKind) (answered : Announcement) (table : TtData) (known : Knowledge) → Tells answered table → q.live known.routes now orig ≡ true
    → released_more orig (record known { tables = Answered orig (stamp_in answered) (carried_by kind answered.changes) ∷ known.tables })
    ≡ after_answer q now orig (Answers (stamp_told table) (carried_by kind (message_changes table))) known
answered_is q now orig kind answered table known tells live =
    let whole : Stamp → List Change → Knowledge = λ s cs. released_more orig (record known { tables = Answered orig s (carried_by kind cs) ∷ known.tables }) in
    ap (λ s. whole s answered.changes) tells.stamp ∙ ap (λ cs. whole (stamp_told table) cs) tells.changes
    ∙ sym (ap (λ b. if b then whole (stamp_told table) (message_changes table) else known) live)
