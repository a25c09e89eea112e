-- What a node keeps of the fact store: the addresses of primaries are whole, and what holds of each fact
-- that came or was put holds of those that the node keeps, tells and sends; and what holds of the types
-- that are asked for holds of those of answers.
use Rattle.std.proofs.Common.{◌≡◌, ◌≤◌, ◌-◌, ◌==◌, ◌&&◌, ◌||◌, nat_eq, ℕ, zero, suc, Bool, true, false, cond, nat_lt, nat_le, List, [], ◌∷◌, ◌++◌, length, take, drop, filter, filter_map, map, Option, Some, None, is_some, option_and_then, option_map, refl, sym, subst, arith}
use Rattle.std.specs.List.{AllByRecursion, cons_option}
use Rattle.std.proofs.lemmas.Bool.{eqb-true}
use Rattle.std.proofs.lemmas.Bool.Decides.{nat_tests}
use Rattle.mesh_base.specs.Ordered.{in_order}
use Rattle.mesh_base.specs.declared.address.Mac.{Mac}
use Rattle.mesh_model.specs.declared.service.Fact.{Fact}
use Rattle.mesh_model.specs.declared.service.FactKey.{FactKey}
use Rattle.mesh_model.specs.declared.service.KeptFact.{KeptFact}
use Rattle.mesh_model.specs.declared.service.Mark.{Mark}
use Rattle.mesh_model.specs.declared.service.Mark.TheVariants.{Local}
use Rattle.mesh_model.specs.declared.service.PrimaryRow.{PrimaryRow}
use Rattle.mesh_model.specs.Knowledge.FactStore.{announced_primaries, chosen_primary, facts_marked, facts_of_type, is_reached, last_announced, primary_row, primary_rows, reached_primaries}
use Rattle.mesh_model.specs.Knowledge.Known.{Knowledge}
use Rattle.mesh_model.specs.Knowledge.Served.{PrimaryCall}
use Rattle.mesh_model.specs.Packets.FactMessages.{FactMessage, HasPart, Primary, Requests, HasEnd}
use Rattle.mesh_model.specs.Routes.Addresses.{is_smaller, same_mac}
use Rattle.mesh_model.specs.Routes.Queries.{Queries}
use Rattle.mesh_model.specs.Services.Facts.{FactCall, WasPut, CameFrom, fact_of_call, fact_order, facts_at, if_live, is_fact_of, is_live_fact, kept_fact, key_of_fact, live_fact, mark_from, stays_kept, taken_fact}
use Rattle.mesh_model.specs.Services.Parts.{fact_pieces, fact_size, fitting, most_parts, numbered, part_message, parts_of, transaction_messages}
use Rattle.mesh_model.specs.Services.Primaries.{best_primary_row, better_primary, is_eligible}
use Rattle.mesh_model.specs.Services.Transactions.{Brought, APart, AnEnd, Part, Transaction, TxnCall, facts_below, going, made_whole, part_at, transaction, unless_whole, whole_facts, with_brought}
use Rattle.mesh_laws.proofs.KeptLemmas.{Kept, kept_of}
use Rattle.mesh_tie.proofs.EntryLemmas.{each_appended, each_dropped, each_filtered}
use Rattle.mesh_tie.proofs.ServesLemmas.{each_placed}

-- ---- what holds of facts
-- it holds of the facts that a message brings
abbrev pub Brings : (Fact → Type 0) → Brought → Type 0
Brings F (APart number facts) = AllByRecursion F facts
Brings F (AnEnd count) = Unit {0}

-- what holds of facts that are pushed, of those that answer a question, and of the types that are asked
-- for: a fact that a node has answers a question for its type
pub record Holds : Type 1 where
  pub pushed : Fact → Type 0
  pub answered : Fact → Type 0
  pub asked : ℕ → Type 0
  pub answers : (fact : Fact) → pushed fact → asked fact.type_no → answered fact

-- of those of a push, or of an answer
abbrev pub holds_of : Holds → Bool → Fact → Type 0
holds_of F true = F.pushed
holds_of F false = F.answered

abbrev pub MessageHas : Holds → FactMessage → Type 0
MessageHas F (HasPart push id number facts) = AllByRecursion (holds_of F push) facts
MessageHas F Primary = Unit {0}
MessageHas F (Requests id type_no) = F.asked type_no
MessageHas F (HasEnd push id count) = Unit {0}

abbrev pub CallBrings : (Fact → Type 0) → TxnCall → Type 0
CallBrings F call = Brings F call.brought

-- a fact of which it holds has room in a part
abbrev pub Fits : (Fact → Type 0) → Fact → Type 0
Fits F fact = F fact × (fact_size fact ≤ 1396)

-- it holds of facts that have room in a part
abbrev pub fitting_facts : Holds → Holds
fitting_facts F = record {
  pushed = Fits F.pushed;
  answered = Fits F.answered;
  asked = F.asked;
  answers = λ fact has asked. (F.answers fact has.0 asked, has.1);
}

-- what a node keeps of the store
pub record Stores (D : Mac → Type 0) (F : Holds) (kept : Kept) : Type 0 where
  pub primaries : AllByRecursion (λ (call : PrimaryCall). D call.primary) kept.primaries
  pub facts : AllByRecursion (λ (call : FactCall). F.pushed (fact_of_call call)) kept.facts
  pub pushes : AllByRecursion (CallBrings F.pushed) kept.pushes
  pub answers : AllByRecursion (CallBrings F.answered) kept.answers

-- ---- transactions

abbrev PartsHave : (Fact → Type 0) → List Part → Type 0
PartsHave F parts = AllByRecursion (λ (part : Part). AllByRecursion F part.facts) parts

abbrev IfTxn : (Fact → Type 0) → Option Transaction → Type 0
IfTxn F o = (txn : Transaction) → o ≡ Some txn → PartsHave F txn.parts

with_has : (F : Fact → Type 0) (brought : Brought) (txn : Transaction) → Brings F brought → PartsHave F txn.parts → PartsHave F (with_brought brought txn).parts
with_has F (APart number facts) txn brings all = go (is_some (part_at txn.parts number))
  where
    new : Transaction
    new = record txn { parts = txn.parts ++ record { number = number; facts = facts } ∷ [] }

    go : (b : Bool) → PartsHave F (cond b txn new).parts
    go true = all
    go false = each_appended (λ (part : Part). AllByRecursion F part.facts) txn.parts (record { number = number; facts = facts } ∷ []) all (brings, tt)
with_has F (AnEnd count) txn brings all = all

going_has : (F : Fact → Type 0) (now : ℕ) (o : Option Transaction) → IfTxn F o → PartsHave F (going now o).parts
going_has F now None old = tt
going_has F now (Some txn) old = go (nat_lt (now - txn.opened) 60000)
  where
    go : (b : Bool) → PartsHave F (cond b txn (record { opened = now; parts = []; count = None })).parts
    go true = old txn refl
    go false = tt

txn_has : (F : Fact → Type 0) (calls : List TxnCall) (sender : Mac) (id : ℕ) → AllByRecursion (CallBrings F) calls → IfTxn F (transaction calls sender id)
txn_has F [] sender id all = λ txn is. cc
txn_has F (call ∷ older) sender id all = go (same_mac call.sender sender && (call.id == id)) (transaction older sender id) (txn_has F older sender id all.1)
  where
    unless : (b : Bool) (one : Transaction) → PartsHave F one.parts → IfTxn F (cond b None (Some one))
    unless true one has txn is = cc
    unless false one has txn is = let same : one ≡ txn = cc in subst (λ (t : Transaction). PartsHave F t.parts) same has

    go : (b : Bool) (o : Option Transaction) → IfTxn F o → IfTxn F (cond b (unless_whole (with_brought call.brought (going call.moment o))) o)
    go true o old =
        let next = with_brought call.brought (going call.moment o) in
        unless (is_some (whole_facts next)) next (with_has F call.brought (going call.moment o) all.0 (going_has F call.moment o old))
    go false o old = old

part_has : (F : Fact → Type 0) (parts : List Part) (number : ℕ) (part : Part) → PartsHave F parts → part_at parts number ≡ Some part → AllByRecursion F part.facts
part_has F [] number part all is = cc
part_has F (first ∷ rest) number part all is = go (first.number == number) is (λ e. part_has F rest number part all.1 e)
  where
    go : (b : Bool) → cond b (Some first) (part_at rest number) ≡ Some part → (part_at rest number ≡ Some part → AllByRecursion F part.facts) → AllByRecursion F part.facts
    go true e more = let same : first ≡ part = cc in subst (λ (p : Part). AllByRecursion F p.facts) same all.0
    go false e more = more e

below_has : (F : Fact → Type 0) (parts : List Part) (count : ℕ) (facts : List Fact) → PartsHave F parts → facts_below parts count ≡ Some facts → AllByRecursion F facts
below_has F parts zero facts all is = let same : [] ≡ facts = cc in subst (AllByRecursion F) same tt
below_has F parts (suc number) facts all is = go (facts_below parts number) (part_at parts number) (λ some e. below_has F parts number some all e) (λ part e. part_has F parts number part all e) is
  where
    go : (o : Option (List Fact)) (p : Option Part) → ((some : List Fact) → o ≡ Some some → AllByRecursion F some) → ((part : Part) → p ≡ Some part → AllByRecursion F part.facts)
        → option_and_then (λ some. option_map (λ (part : Part). some ++ part.facts) p) o ≡ Some facts → AllByRecursion F facts
    go None p old new e = cc
    go (Some some) None old new e = cc
    go (Some some) (Some part) old new e =
        let same : some ++ part.facts ≡ facts = cc in
        subst (AllByRecursion F) same (each_appended F some part.facts (old some refl) (new part refl))

-- the facts that a message makes whole
pub whole_has : (F : Fact → Type 0) (call : TxnCall) (older : List TxnCall) (facts : List Fact) → CallBrings F call → AllByRecursion (CallBrings F) older → made_whole call older ≡ Some facts → AllByRecursion F facts
whole_has F call older facts brings all is = go next.count is
  where
    next : Transaction
    next = with_brought call.brought (going call.moment (transaction older call.sender call.id))

    has : PartsHave F next.parts
    has = with_has F call.brought (going call.moment (transaction older call.sender call.id)) brings
        (going_has F call.moment (transaction older call.sender call.id) (txn_has F older call.sender call.id all))

    go : (o : Option ℕ) → option_and_then (facts_below next.parts) o ≡ Some facts → AllByRecursion F facts
    go None e = cc
    go (Some count) e = below_has F next.parts count facts has e

-- ---- facts that are kept
abbrev IfKept : (Fact → Type 0) → Option KeptFact → Type 0
IfKept F o = (kept : KeptFact) → o ≡ Some kept → F kept.fact

some_kept : (F : Fact → Type 0) (one : KeptFact) → F one.fact → IfKept F (Some one)
some_kept F one has kept is = let same : one ≡ kept = cc in subst (λ (k : KeptFact). F k.fact) same has

kept_if : (F : Fact → Type 0) (b : Bool) (one other : Option KeptFact) → IfKept F one → IfKept F other → IfKept F (cond b one other)
kept_if F true one other a b = a
kept_if F false one other a b = b

kept_has : (F : Fact → Type 0) (calls : List FactCall) (source : Mac) (type_no : ℕ) → AllByRecursion (λ (call : FactCall). F (fact_of_call call)) calls → IfKept F (kept_fact calls source type_no)
kept_has F [] source type_no all = λ kept is. cc
kept_has F (WasPut now fact ∷ older) source type_no all =
    kept_if F (is_fact_of source type_no fact) (Some (record { moment = now; mark = Local; fact = fact })) (kept_fact older source type_no)
    (some_kept F (record { moment = now; mark = Local; fact = fact }) all.0) (kept_has F older source type_no all.1)
kept_has F (CameFrom now sender fact ∷ older) source type_no all =
    let before = kept_fact older source type_no in
    let old = kept_has F older source type_no all.1 in
    let new : KeptFact = record { moment = now; mark = mark_from sender fact; fact = fact } in
    kept_if F (is_fact_of source type_no fact) (taken_fact now sender fact before) before
    (kept_if F (stays_kept now (mark_from sender fact) before) before (Some new) old (some_kept F new all.0)) old

abbrev pub OfKept : (Fact → Type 0) → KeptFact → Type 0
OfKept F kept = F kept.fact

rows_have : (F : Fact → Type 0) (calls : List FactCall) (now : ℕ) (keys : List FactKey) → AllByRecursion (λ (call : FactCall). F (fact_of_call call)) calls → AllByRecursion (OfKept F) (filter_map (live_fact calls now) keys)
rows_have F calls now [] all = tt
rows_have F calls now (key ∷ keys) all = go (kept_fact calls key.source key.type_no) (kept_has F calls key.source key.type_no all) (rows_have F calls now keys all)
  where
    by : (b : Bool) (kept : KeptFact) → F kept.fact → AllByRecursion (OfKept F) (filter_map (live_fact calls now) keys) → AllByRecursion (OfKept F) (cons_option (cond b (Some kept) None) (filter_map (live_fact calls now) keys))
    by true kept one more = (one, more)
    by false kept one more = more

    go : (o : Option KeptFact) → IfKept F o → AllByRecursion (OfKept F) (filter_map (live_fact calls now) keys) → AllByRecursion (OfKept F) (cons_option (option_and_then (if_live now) o) (filter_map (live_fact calls now) keys))
    go None old more = more
    go (Some kept) old more = by (is_live_fact now kept) kept (old kept refl) more

pub facts_have : (F : Fact → Type 0) (calls : List FactCall) (now : ℕ) → AllByRecursion (λ (call : FactCall). F (fact_of_call call)) calls → AllByRecursion (OfKept F) (facts_at calls now)
facts_have F calls now all = rows_have F calls now (in_order fact_order (map (λ call. key_of_fact (fact_of_call call)) calls)) all

kept_facts : (F : Fact → Type 0) (rows : List KeptFact) → AllByRecursion (OfKept F) rows → AllByRecursion F (map (λ (kept : KeptFact). kept.fact) rows)
kept_facts F [] all = tt
kept_facts F (row ∷ rows) all = (all.0, kept_facts F rows all.1)

pub marked_have : (D : Mac → Type 0) (F : Holds) (asked : Mark → Bool) (known : Knowledge) (now : ℕ) → Stores D F (kept_of known) → AllByRecursion F.pushed (facts_marked asked known.services now)
marked_have D F asked known now s =
    let rows = facts_at known.services.facts now in
    let test : KeptFact → Bool = λ kept. asked kept.mark in
    kept_facts F.pushed (filter test rows) (each_filtered (OfKept F.pushed) test rows (facts_have F.pushed known.services.facts now s.facts))

-- those of a type that is asked for answer
answers_each : (F : Holds) (type_no : ℕ) (facts : List Fact) → F.asked type_no → AllByRecursion F.pushed facts → AllByRecursion F.answered (filter (λ (fact : Fact). fact.type_no == type_no) facts)
answers_each F type_no [] asked all = tt
answers_each F type_no (fact ∷ facts) asked all = go (fact.type_no == type_no) refl (answers_each F type_no facts asked all.1)
  where
    rest : List Fact
    rest = filter (λ (one : Fact). one.type_no == type_no) facts

    go : (b : Bool) → (fact.type_no == type_no) ≡ b → AllByRecursion F.answered rest → AllByRecursion F.answered (cond b (fact ∷ rest) rest)
    go true is more = let same : type_no ≡ fact.type_no = sym (eqb-true fact.type_no type_no is) in (F.answers fact all.0 (subst F.asked same asked), more)
    go false is more = more

pub typed_have : (D : Mac → Type 0) (F : Holds) (known : Knowledge) (now type_no : ℕ) → F.asked type_no → Stores D F (kept_of known) → AllByRecursion F.answered (facts_of_type known.services now type_no)
typed_have D F known now type_no asked s =
    let rows = facts_at known.services.facts now in
    answers_each F type_no (map (λ (kept : KeptFact). kept.fact) rows) asked (kept_facts F.pushed rows (facts_have F.pushed known.services.facts now s.facts))

-- ---- parts
fitting_have : (F : Fact → Type 0) (room : ℕ) (facts : List Fact) → room ≤ 1396 → AllByRecursion F facts → AllByRecursion (Fits F) (take (fitting room facts) facts)
fitting_have F room [] low all = tt
fitting_have F room (fact ∷ facts) low all = go (nat_le (fact_size fact) room) refl (fitting_have F (room - fact_size fact) facts (omega (arith, low)) all.1)
  where
    go : (b : Bool) → nat_le (fact_size fact) room ≡ b → AllByRecursion (Fits F) (take (fitting (room - fact_size fact) facts) facts)
        → AllByRecursion (Fits F) (take (cond b (suc (fitting (room - fact_size fact) facts)) 0) (fact ∷ facts))
    go true is more = let small : fact_size fact ≤ 1396 = grind (arith, nat_tests, is, low) in ((all.0, small), more)
    go false is more = tt

pieces_have : (F : Fact → Type 0) (most : ℕ) (facts : List Fact) → AllByRecursion F facts → AllByRecursion (λ (piece : List Fact). AllByRecursion (Fits F) piece) (fact_pieces most facts)
unfolding fact_pieces
pieces_have F zero facts all = tt
pieces_have F (suc more) facts all = go (fitting 1396 facts == 0) (pieces_have F more (drop (fitting 1396 facts) facts) (each_dropped F (fitting 1396 facts) facts all))
  where
    rest : List (List Fact)
    rest = fact_pieces more (drop (fitting 1396 facts) facts)

    go : (b : Bool) → AllByRecursion (λ (piece : List Fact). AllByRecursion (Fits F) piece) rest → AllByRecursion (λ (piece : List Fact). AllByRecursion (Fits F) piece) (cond b [] (take (fitting 1396 facts) facts ∷ rest))
    go true others = tt
    go false others = (fitting_have F 1396 facts (omega arith) all, others)

numbered_have : (F : Holds) (push : Bool) (id number : ℕ) (pieces : List (List Fact)) → AllByRecursion (λ (piece : List Fact). AllByRecursion (holds_of F push) piece) pieces → AllByRecursion (MessageHas F) (map (part_message push id) (numbered number pieces))
numbered_have F push id number [] all = tt
numbered_have F push id number (facts ∷ rest) all = (all.0, numbered_have F push id (suc number) rest all.1)

pub messages_have : (F : Holds) (push : Bool) (id : ℕ) (facts : List Fact) → AllByRecursion (holds_of F push) facts → AllByRecursion (MessageHas (fitting_facts F)) (transaction_messages push id facts)
messages_have F push id facts all =
    each_appended (MessageHas (fitting_facts F)) (map (part_message push id) (parts_of facts)) (HasEnd push id (length (parts_of facts)) ∷ []) (go push all) (tt, tt)
  where
    go : (b : Bool) → AllByRecursion (holds_of F b) facts → AllByRecursion (MessageHas (fitting_facts F)) (map (part_message b id) (parts_of facts))
    go true has = numbered_have (fitting_facts F) true id 0 (fact_pieces most_parts facts) (pieces_have F.pushed most_parts facts has)
    go false has = numbered_have (fitting_facts F) false id 0 (fact_pieces most_parts facts) (pieces_have F.answered most_parts facts has)

-- ---- primaries
primaries_whole : (D : Mac → Type 0) (calls : List PrimaryCall) → AllByRecursion (λ (call : PrimaryCall). D call.primary) calls → AllByRecursion D (announced_primaries calls)
primaries_whole D [] all = tt
primaries_whole D (call ∷ calls) all = each_placed D call.primary (announced_primaries calls) all.0 (primaries_whole D calls all.1)

abbrev RowWhole : (Mac → Type 0) → PrimaryRow → Type 0
RowWhole D row = D row.orig

rows_whole : (D : Mac → Type 0) (q : Queries) (known : Knowledge) (now : ℕ) (macs : List Mac) → AllByRecursion D macs → AllByRecursion (RowWhole D) (filter_map (primary_row q known now) macs)
rows_whole D q known now [] all = tt
rows_whole D q known now (mac ∷ rest) all = go (last_announced known.services.primaries mac) (rows_whole D q known now rest all.1)
  where
    go : (o : Option ℕ) → AllByRecursion (RowWhole D) (filter_map (primary_row q known now) rest)
        → AllByRecursion (RowWhole D) (cons_option (option_map (λ moment. record { orig = mac; announced = moment; metric = q.metric known.routes now mac }) o) (filter_map (primary_row q known now) rest))
    go None more = more
    go (Some moment) more = (all.0, more)

known_whole : (q : Queries) (known : Knowledge) (now : ℕ) (D : Mac → Type 0) (F : Holds) → Stores D F (kept_of known) → AllByRecursion (RowWhole D) (primary_rows q known now)
known_whole q known now D F s = rows_whole D q known now (announced_primaries known.services.primaries) (primaries_whole D known.services.primaries s.primaries)

origs_whole : (D : Mac → Type 0) (rows : List PrimaryRow) → AllByRecursion (RowWhole D) rows → AllByRecursion D (map (λ (row : PrimaryRow). row.orig) rows)
origs_whole D [] all = tt
origs_whole D (row ∷ rows) all = (all.0, origs_whole D rows all.1)

pub reached_whole : (q : Queries) (known : Knowledge) (now : ℕ) (D : Mac → Type 0) (F : Holds) → Stores D F (kept_of known) → AllByRecursion D (reached_primaries q known now)
reached_whole q known now D F s =
    let rows = primary_rows q known now in
    origs_whole D (filter (is_reached q known now) rows) (each_filtered (RowWhole D) (is_reached q known now) rows (known_whole q known now D F s))

abbrev IfRow : (Mac → Type 0) → Option PrimaryRow → Type 0
IfRow D o = (row : PrimaryRow) → o ≡ Some row → D row.orig

some_row : (D : Mac → Type 0) (one : PrimaryRow) → D one.orig → IfRow D (Some one)
some_row D one whole row is = let same : one ≡ row = cc in subst (RowWhole D) same whole

best_row_whole : (D : Mac → Type 0) (now : ℕ) (rows : List PrimaryRow) → AllByRecursion (RowWhole D) rows → IfRow D (best_primary_row now rows)
best_row_whole D now [] all = λ row is. cc
best_row_whole D now (first ∷ rest) all = go (is_eligible now first) (best_primary_row now rest) (best_row_whole D now rest all.1)
  where
    better : (o : Option PrimaryRow) → IfRow D o → D (better_primary first o).orig
    better None old = all.0
    better (Some other) old = by (nat_lt other.metric first.metric || (nat_eq other.metric first.metric && is_smaller first.orig other.orig))
      where
        by : (b : Bool) → D (cond b first other).orig
        by true = all.0
        by false = old other refl

    go : (b : Bool) (o : Option PrimaryRow) → IfRow D o → IfRow D (cond b (Some (better_primary first o)) o)
    go true o old = some_row D (better_primary first o) (better o old)
    go false o old = old

pub chosen_whole : (q : Queries) (known : Knowledge) (now : ℕ) (D : Mac → Type 0) (F : Holds) → Stores D F (kept_of known) → (mac : Mac) → chosen_primary q known now ≡ Some mac → D mac
chosen_whole q known now D F s mac is = go (best_primary_row now (primary_rows q known now)) (best_row_whole D now (primary_rows q known now) (known_whole q known now D F s)) is
  where
    go : (o : Option PrimaryRow) → IfRow D o → option_map (λ (row : PrimaryRow). row.orig) o ≡ Some mac → D mac
    go None old e = cc
    go (Some row) old e = let same : row.orig ≡ mac = cc in subst D same (old row refl)

-- ---- what always holds
all_any : {X : Type 0} (P : X → Type 0) → ((x : X) → P x) → (xs : List X) → AllByRecursion P xs
all_any P any [] = tt
all_any P any (x ∷ xs) = (any x, all_any P any xs)

-- what holds of all facts and types
abbrev pub any_facts : Holds
any_facts = record {
  pushed = λ fact. Unit {0};
  answered = λ fact. Unit {0};
  asked = λ type_no. Unit {0};
  answers = λ fact has asked. tt;
}

pub any_message : (message : FactMessage) → MessageHas any_facts message
any_message (HasPart true id number facts) = all_any (λ fact. Unit {0}) (λ fact. tt) facts
any_message (HasPart false id number facts) = all_any (λ fact. Unit {0}) (λ fact. tt) facts
any_message Primary = tt
any_message (Requests id type_no) = tt
any_message (HasEnd push id count) = tt

any_call : (call : TxnCall) → CallBrings (λ fact. Unit {0}) call
any_call call = go call.brought
  where
    go : (brought : Brought) → Brings (λ fact. Unit {0}) brought
    go (APart number facts) = all_any (λ fact. Unit {0}) (λ fact. tt) facts
    go (AnEnd count) = tt

pub any_stores : (kept : Kept) → Stores (λ mac. Unit {0}) any_facts kept
any_stores kept = record {
  primaries = all_any (λ (call : PrimaryCall). Unit {0}) (λ call. tt) kept.primaries;
  facts = all_any (λ (call : FactCall). Unit {0}) (λ call. tt) kept.facts;
  pushes = all_any (CallBrings (λ fact. Unit {0})) any_call kept.pushes;
  answers = all_any (CallBrings (λ fact. Unit {0})) any_call kept.answers;
}

-- ---- what holds of more
pub each_more : {X : Type 0} (P Q : X → Type 0) → ((x : X) → P x → Q x) → (xs : List X) → AllByRecursion P xs → AllByRecursion Q xs
each_more P Q more [] all = tt
each_more P Q more (x ∷ xs) all = (more x all.0, each_more P Q more xs all.1)

-- what holds of facts and of types holds of more
pub record AreMore (F G : Holds) : Type 0 where
  pub pushed : (fact : Fact) → F.pushed fact → G.pushed fact
  pub answered : (fact : Fact) → F.answered fact → G.answered fact
  pub asked : (type_no : ℕ) → F.asked type_no → G.asked type_no

pub more_message : (F G : Holds) → AreMore F G → (message : FactMessage) → MessageHas F message → MessageHas G message
more_message F G more (HasPart true id number facts) has = each_more F.pushed G.pushed more.pushed facts has
more_message F G more (HasPart false id number facts) has = each_more F.answered G.answered more.answered facts has
more_message F G more Primary has = tt
more_message F G more (Requests id type_no) has = more.asked type_no has
more_message F G more (HasEnd push id count) has = tt

more_call : (F G : Fact → Type 0) → ((fact : Fact) → F fact → G fact) → (call : TxnCall) → CallBrings F call → CallBrings G call
more_call F G more call has = go call.brought has
  where
    go : (brought : Brought) → Brings F brought → Brings G brought
    go (APart number facts) has = each_more F G more facts has
    go (AnEnd count) has = tt

pub more_stores : (D : Mac → Type 0) (F G : Holds) → AreMore F G → (kept : Kept) → Stores D F kept → Stores D G kept
more_stores D F G more kept s = record {
  primaries = s.primaries;
  facts = each_more (λ (call : FactCall). F.pushed (fact_of_call call)) (λ (call : FactCall). G.pushed (fact_of_call call)) (λ call. more.pushed (fact_of_call call)) kept.facts s.facts;
  pushes = each_more (CallBrings F.pushed) (CallBrings G.pushed) (more_call F.pushed G.pushed more.pushed) kept.pushes s.pushes;
  answers = each_more (CallBrings F.answered) (CallBrings G.answered) (more_call F.answered G.answered more.answered) kept.answers s.answers;
}
