-- What is known of the store once a message of a transaction came.
use Rattle.std.proofs.Common.{◌≡◌, ◌+◌, ℕ, suc, zero, List, [], ◌∷◌, slice_get, take, Option, Some, None, option_and_then, refl, sym, ap, ◌∙◌, subst, arith}
use Rattle.mesh_base.specs.declared.address.Mac.{Mac}
use Rattle.mesh_model.specs.declared.service.Fact.{Fact}
use Rattle.mesh_model.specs.Knowledge.FactStore.{after_answering, after_closing, after_push, after_whole_push, open_request, with_fact, with_facts}
use Rattle.mesh_model.specs.Knowledge.Known.{Knowledge}
use Rattle.mesh_model.specs.Knowledge.Served.{FactRequest}
use Rattle.mesh_model.specs.Services.Facts.{CameFrom, FactCall}
use Rattle.mesh_model.specs.Services.Transactions.{TxnCall, made_whole}
use Rattle.alfred_core.specs.declared.txn.Txn.{Txn}
use Rattle.alfred_core.specs.declared.txn.Txn.TheVariants.{Open, Whole}
use Rattle.alfred_core.specs.Facts.{FactsStand, KeptFacts}
use Rattle.alfred_core.specs.Transactions.{Answers, Rows, TransactionsStand}
use Rattle.alfred_store.specs.Answers.{answer_to, answer_with, closed_with, facts_in}
use Rattle.alfred_store.specs.RequestsStand.{RequestsStand}
use Rattle.alfred_store.specs.StoreStands.{StoreStands, store_in, taken_calls}
use Rattle.alfred_store.specs.declared.requests.Asked.{Asked}
use Rattle.alfred_store.specs.declared.store.Store.{Store}

-- what there is of a transaction tells what a message makes whole
found_whole : (call : TxnCall) (older : List TxnCall) (txn : Txn) → Answers call older txn → facts_in txn ≡ made_whole call older
found_whole call older (Open have want) is = sym is.0
found_whole call older (Whole facts) is = sym is

-- one more fact is taken behind the first
taken_next : (now : ℕ) (sender : Mac) (facts : List Fact) (i : ℕ) (fact : Fact) (calls : List FactCall) → slice_get facts i ≡ Some fact
    → CameFrom now sender fact ∷ taken_calls now sender (Some (take i facts)) calls ≡ taken_calls now sender (Some (take (suc i) facts)) calls
taken_next now sender [] i fact calls is = cc
taken_next now sender (first ∷ facts) zero fact calls is = cc
taken_next now sender (first ∷ facts) (suc i) fact calls is = taken_next now sender facts i fact (CameFrom now sender first ∷ calls) is

pub one_taken : (now : ℕ) (sender : Mac) (facts : List Fact) (i : ℕ) (fact : Fact) (calls : List FactCall) → slice_get facts i ≡ Some fact
    → CameFrom now sender fact ∷ taken_calls now sender (Some (take i facts)) calls ≡ taken_calls now sender (Some (take (i + 1) facts)) calls
one_taken now sender facts i fact calls is = taken_next now sender facts i fact calls is ∙ ap (λ n. taken_calls now sender (Some (take n facts)) calls) (more i)
  where
    more : (n : ℕ) → suc n ≡ n + 1
    more n = omega arith

-- ---- pushes
facts_taken : (now : ℕ) (sender : Mac) (facts : List Fact) (known : Knowledge)
    → store_in (with_facts now sender facts known) ≡ record (store_in known) { facts = taken_calls now sender (Some facts) known.services.facts }
facts_taken now sender [] known = refl
facts_taken now sender (fact ∷ facts) known = facts_taken now sender facts (with_fact (CameFrom now sender fact) known)

-- what is known after a message of a push, by the facts that it makes whole
pushed : (call : TxnCall) (known : Knowledge) (facts : Option (List Fact)) → facts ≡ made_whole call known.services.pushes
    → record (store_in known) { pushes = call ∷ known.services.pushes; facts = taken_calls call.moment call.sender facts known.services.facts } ≡ store_in (after_push call known)
pushed call known facts is = go facts ∙ ap (λ o. store_in (after_whole_push call.moment call.sender o noted)) is
  where
    noted : Knowledge
    noted = record known { services = record known.services { pushes = call ∷ known.services.pushes } }

    go : (o : Option (List Fact)) → record (store_in known) { pushes = call ∷ known.services.pushes; facts = taken_calls call.moment call.sender o known.services.facts }
        ≡ store_in (after_whole_push call.moment call.sender o noted)
    go None = refl
    go (Some facts) = sym (facts_taken call.moment call.sender facts noted)

-- the store after it, by what there is of its transaction then
pub push_stands : (old : Store) (facts : KeptFacts) (pushes : Rows) (me : Mac) (call : TxnCall) (known : Knowledge) (txn : Txn) → StoreStands old me (store_in known)
    → Answers call known.services.pushes txn → TransactionsStand pushes (call ∷ known.services.pushes) → FactsStand facts me (taken_calls call.moment call.sender (facts_in txn) known.services.facts)
    → StoreStands (record old { facts = facts; pushes = pushes }) me (store_in (after_push call known))
push_stands old facts pushes me call known txn stands answered noted taken =
    subst (StoreStands (record old { facts = facts; pushes = pushes }) me) (pushed call known (facts_in txn) (found_whole call known.services.pushes txn answered))
    (record {
      facts = taken;
      primaries = stands.primaries;
      pushes = noted;
      answers = stands.answers;
      requests = stands.requests;
      ids = stands.ids;
    })

-- ---- answers
-- what is known after a message of an answer, by the facts that it makes whole
answering : (call : TxnCall) (known : Knowledge) (facts : Option (List Fact)) → facts ≡ made_whole call known.services.answers
    → record (store_in known) { answers = call ∷ known.services.answers; requests = closed_with call.sender call.id facts known.services.requests } ≡ store_in (after_answering call known)
answering call known facts is = go facts ∙ ap (λ o. store_in (after_closing (option_and_then (λ (facts : List Fact). open_request known.services.requests call.sender call.id) o) noted)) is
  where
    noted : Knowledge
    noted = record known { services = record known.services { answers = call ∷ known.services.answers } }

    by_request : (o : Option FactRequest) → open_request known.services.requests call.sender call.id ≡ o → (facts : List Fact)
        → record (store_in known) { answers = call ∷ known.services.answers; requests = closed_with call.sender call.id (Some facts) known.services.requests }
        ≡ store_in (after_closing (open_request known.services.requests call.sender call.id) noted)
    by_request None is facts = rw is refl
    by_request (Some request) is facts = rw is refl

    go : (o : Option (List Fact)) → record (store_in known) { answers = call ∷ known.services.answers; requests = closed_with call.sender call.id o known.services.requests }
        ≡ store_in (after_closing (option_and_then (λ (facts : List Fact). open_request known.services.requests call.sender call.id) o) noted)
    go None = refl
    go (Some facts) = by_request (open_request known.services.requests call.sender call.id) refl facts

-- the store after it, by what there is of its transaction then
pub answer_stands : (old : Store) (answers : Rows) (requests : List (ℕ × Asked)) (me : Mac) (call : TxnCall) (known : Knowledge) (txn : Txn) → StoreStands old me (store_in known)
    → Answers call known.services.answers txn → TransactionsStand answers (call ∷ known.services.answers) → RequestsStand requests (closed_with call.sender call.id (facts_in txn) known.services.requests)
    → StoreStands (record old { answers = answers; requests = requests }) me (store_in (after_answering call known))
answer_stands old answers requests me call known txn stands answered noted closed =
    subst (StoreStands (record old { answers = answers; requests = requests }) me) (answering call known (facts_in txn) (found_whole call known.services.answers txn answered))
    (record {
      facts = stands.facts;
      primaries = stands.primaries;
      pushes = stands.pushes;
      answers = noted;
      requests = closed;
      ids = stands.ids;
    })

-- and what answers the request that it closes
pub answer_is : (call : TxnCall) (known : Knowledge) (txn : Txn) → Answers call known.services.answers txn
    → answer_with (open_request known.services.requests call.sender call.id) (facts_in txn) ≡ answer_to call known.services
answer_is call known txn answered = ap (answer_with (open_request known.services.requests call.sender call.id)) (found_whole call known.services.answers txn answered)
