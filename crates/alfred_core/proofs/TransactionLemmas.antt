-- How what is kept of transactions goes along with a message.
use Rattle.std.proofs.Common.{◌≡◌, ◌≤◌, ◌-◌, ◌==◌, ℕ, Bool, true, false, cond, nat_lt, List, [], ◌∷◌, ◌++◌, length, IsSomeAnd, is_some, Option, None, Some, refl, sym, ap, ap₂, ◌∙◌, subst, arith}
use Rattle.std.specs.Cmp.{IsEquivalence}
use Rattle.std.specs.List.{IsDistinct}
use Rattle.std.specs.Map.{keys_of, lookup, remove_entry, set_value}
use Rattle.std.proofs.lemmas.Bool.{and_parts, eqb-true}
use Rattle.std.proofs.lemmas.Cmp.{and_equiv, nat_eq_equiv, on_equiv}
use Rattle.std.proofs.lemmas.Map.{keys-set_value, lookup-remove_entry, lookup-set_value}
use Rattle.std.proofs.lemmas.Map.Entries.{lookup-filter-values, option_filter}
use Rattle.std.proofs.lemmas.Map.Made.{IsDistinct-keys_filter}
use Rattle.indexmap.specs.IndexMap.{IndexMap, get, insert_entry}
use Rattle.indexmap.proofs.CallerLemmas.{insert_entry-new}
use Rattle.mesh_model.specs.declared.service.Fact.{Fact}
use Rattle.mesh_model.specs.Routes.Addresses.{same_mac}
use Rattle.mesh_model.specs.Services.Transactions.{APart, AnEnd, Brought, Transaction, TxnCall, going, opened_at, part_at, transaction, unless_whole, whole_facts, with_brought}
use Rattle.mesh_laws.specs.Rising.{RiseWithin}
use Rattle.mesh_laws.proofs.MacLemmas.{same_equiv, same_exact}
use Rattle.mesh_laws.proofs.RisingMoments.{one_opened, one_removed, one_written, to_later}
use Rattle.alfred_core.specs.Kept.{call_of, is_kept_open, is_open, told, told_with}
use Rattle.alfred_core.specs.Transactions.{Answers, Rows, TransactionsStand, first_opening, newest_moment, opened_moments, same_transaction}
use Rattle.alfred_core.specs.declared.transaction.Brought.{Brought as Bringing}
use Rattle.alfred_core.specs.declared.transactions.TransactionKey.{TransactionKey}
use Rattle.alfred_core.specs.declared.txn.Txn.{Txn}
use Rattle.alfred_core.specs.declared.txn.Txn.TheVariants.{Open, Whole}
use Rattle.alfred_core.proofs.MomentLemmas.{going_open, open_rise, open_rows, opened}

-- ---- senders and ids
key_equiv : IsEquivalence same_transaction
key_equiv = and_equiv (on_equiv (λ (k : TransactionKey). k.sender) same_equiv) (on_equiv (λ (k : TransactionKey). k.id) nat_eq_equiv)

key_exact : (a b : TransactionKey) → same_transaction a b ≡ true → a ≡ b
key_exact a b is =
    let parts = and_parts (same_mac a.sender b.sender) (a.id == b.id) is in
    λ i. record { sender = same_exact a.sender b.sender parts.0 i; id = eqb-true a.id b.id parts.1 i }

-- ---- what is told
-- an answer, by what is made whole and what is open then
abbrev Tells : Option (List Fact) → Option Transaction → Txn → Type 0
Tells made open_then (Whole facts) = made ≡ Some facts
Tells made open_then (Open have want) = (made ≡ None) × IsSomeAnd open_then (λ txn. (have ≡ length txn.parts) × (want ≡ txn.count))

what_is_told : (txn : Transaction) → Tells (whole_facts txn) (unless_whole txn) (told txn)
what_is_told txn = go (whole_facts txn) refl
  where
    go : (facts : Option (List Fact)) → whole_facts txn ≡ facts → Tells facts (cond (is_some facts) None (Some txn)) (told_with txn facts)
    go None is = (refl, (refl, refl))
    go (Some facts) is = refl

-- where a transaction is told as open, it isn't whole
pub stays_open : (txn : Transaction) (have : ℕ) (want : Option ℕ) → told txn ≡ Open have want → unless_whole txn ≡ Some txn
stays_open txn have want is = go (whole_facts txn) is
  where
    go : (facts : Option (List Fact)) → told_with txn facts ≡ Open have want → cond (is_some facts) None (Some txn) ≡ Some txn
    go None is = refl
    go (Some facts) is = cc

pub ends_whole : (txn : Transaction) (facts : List Fact) → told txn ≡ Whole facts → unless_whole txn ≡ None
ends_whole txn facts is = go (whole_facts txn) is
  where
    go : (made : Option (List Fact)) → told_with txn made ≡ Whole facts → cond (is_some made) None (Some txn) ≡ None
    go None is = cc
    go (Some facts) is = refl

-- what a message brings leaves the moment of the opening
keeps_opening : (brought : Brought) (txn : Transaction) → (with_brought brought txn).opened ≡ txn.opened
keeps_opening (APart number facts) txn = elim (is_some (part_at txn.parts number)) as (λ b. (cond b txn (record txn { parts = txn.parts ++ record { number = number; facts = facts } ∷ [] })).opened ≡ txn.opened) [ true ↦ refl | false ↦ refl ]
keeps_opening (AnEnd count) txn = refl

module _ (rows : Rows) (calls : List TxnCall) (stands : TransactionsStand rows calls) (now : ℕ) (in_time : newest_moment calls ≤ now) (key : TransactionKey) (brought : Bringing) where
  abbrev call : TxnCall
  call = call_of now key brought

  -- the transaction of the message, with what it brings
  abbrev gone : Transaction
  gone = with_brought call.brought (going now (lookup (same_transaction key) rows))

  gone_is : gone ≡ with_brought call.brought (going now (transaction calls key.sender key.id))
  gone_is = ap (with_brought call.brought) (stands.goes_on now in_time key)

  same_itself : same_transaction key key ≡ true
  same_itself = key_equiv.refl key

  open_then : unless_whole gone ≡ transaction (call ∷ calls) key.sender key.id
  open_then =
      ap unless_whole gone_is
      ∙ sym (ap (λ b. cond b (unless_whole (with_brought call.brought (going now (transaction calls key.sender key.id)))) (transaction calls key.sender key.id)) same_itself)

  -- the answer is that to the message
  pub answers : (txn : Txn) → txn ≡ told gone → Answers call calls txn
  answers txn is =
      subst (Answers call calls) (sym is)
      (subst (λ made. Tells made (transaction (call ∷ calls) key.sender key.id) (told gone)) (ap whole_facts gone_is)
      (subst (λ after. Tells (whole_facts gone) after (told gone)) open_then (what_is_told gone)))

  -- a message is noted by what is open then, and what is open still
  noted : (new : Rows) → ((q : TransactionKey) → lookup (same_transaction q) new ≡ cond (same_transaction key q) (unless_whole gone) (option_filter (is_open now) (lookup (same_transaction q) rows)))
      → RiseWithin (first_opening now) (opened_moments new) now → IsDistinct same_transaction (keys_of new) → TransactionsStand new (call ∷ calls)
  noted new updates rise once = record {
    goes_on = λ later le q. ap (going later) (updates q) ∙ go later le q (same_transaction key q) refl;
    ordered = rise;
    once = once;
  }
    where
      go : (later : ℕ) → now ≤ later → (q : TransactionKey) (b : Bool) → same_transaction key q ≡ b
          → going later (cond b (unless_whole gone) (option_filter (is_open now) (lookup (same_transaction q) rows)))
          ≡ going later (cond b (unless_whole (with_brought call.brought (going now (transaction calls q.sender q.id)))) (transaction calls q.sender q.id))
      go later le q true is =
          ap (λ txn. going later (unless_whole txn)) (gone_is ∙ ap (λ (k : TransactionKey). with_brought call.brought (going now (transaction calls k.sender k.id))) (key_exact key q is))
      go later le q false is = going_open now later le (lookup (same_transaction q) rows) ∙ stands.goes_on later (omega (arith, in_time, le)) q

  -- ---- where the transaction is open still
  module _ (txn after : Transaction) (found : lookup (same_transaction key) rows ≡ Some txn) (fresh : is_open now txn ≡ true) (is : after ≡ with_brought call.brought txn) where
    gone_on : after ≡ gone
    gone_on =
        is
        ∙ ap (with_brought call.brought) (sym (ap (λ b. cond b txn (opened_at now)) fresh) ∙ sym (ap (going now) found))

    -- what is told of it is the answer
    pub goes_on_answered : (told_then : Txn) → told_then ≡ told after → Answers call calls told_then
    goes_on_answered told_then told_is = answers told_then (told_is ∙ ap told gone_on)

    same_opening : after.opened ≡ txn.opened
    same_opening = ap opened is ∙ keeps_opening call.brought txn

    -- the rows with what it is then, and of these what is open still
    abbrev written : Rows
    written = set_value (same_transaction key) rows after

    abbrev pub went_on : Rows
    went_on = open_rows now written

    open_after : is_open now after ≡ true
    open_after = ap (λ moment. nat_lt (now - moment) 60000) same_opening ∙ fresh

    written_rise : RiseWithin (first_opening (newest_moment calls)) (opened_moments written) now
    written_rise =
        subst (λ moments. RiseWithin (first_opening (newest_moment calls)) moments now)
        (sym (one_written opened (same_transaction key) rows txn after found same_opening))
        (to_later (first_opening (newest_moment calls)) (newest_moment calls) now (opened_moments rows) in_time stands.ordered)

    -- once those that aren't open any more are dropped, these are left
    pub left_then : (mid left : Rows) → mid ≡ written → ((first last : ℕ) → RiseWithin first (opened_moments mid) last → left ≡ open_rows now mid) → left ≡ went_on
    left_then mid left mid_is dropped =
        dropped (first_opening (newest_moment calls)) now (subst (λ (others : Rows). RiseWithin (first_opening (newest_moment calls)) (opened_moments others) now) (sym mid_is) written_rise)
        ∙ ap (open_rows now) mid_is

    written_once : IsDistinct same_transaction (keys_of written)
    written_once = subst (IsDistinct same_transaction) (sym (keys-set_value (same_transaction key) rows after)) stands.once

    went_on_at : (q : TransactionKey) → lookup (same_transaction q) went_on ≡ cond (same_transaction key q) (Some after) (option_filter (is_open now) (lookup (same_transaction q) rows))
    went_on_at q =
        lookup-filter-values key_equiv (is_open now) q written written_once
        ∙ ap (option_filter (is_open now)) (lookup-set_value key_equiv (same_transaction key) (key_equiv.congr key) q after rows (ap is_some found))
        ∙ elim (same_transaction key q) as (λ b. option_filter (is_open now) (cond b (Some after) (lookup (same_transaction q) rows)) ≡ cond b (Some after) (option_filter (is_open now) (lookup (same_transaction q) rows))) [
          | true ↦ ap (λ b. cond b (Some after) None) open_after
          | false ↦ refl
        ]

    went_on_once : IsDistinct same_transaction (keys_of went_on)
    went_on_once = IsDistinct-keys_filter same_transaction (λ (row : TransactionKey × Transaction). is_open now row.1) written written_once

    -- it stays, unless it is whole
    pub goes_on_open : (told_then : Txn) (have : ℕ) (want : Option ℕ) → told_then ≡ told after → told_then ≡ Open have want → (new : Rows) → new ≡ went_on → TransactionsStand new (call ∷ calls)
    goes_on_open told_then have want told_is is_open_still new left =
        subst (λ (others : Rows). TransactionsStand others (call ∷ calls)) (sym left)
        (noted went_on
        (λ q. went_on_at q ∙ ap (λ o. cond (same_transaction key q) o (option_filter (is_open now) (lookup (same_transaction q) rows))) (sym (stays_open after have want (sym told_is ∙ is_open_still)) ∙ ap unless_whole gone_on))
        (open_rise now (first_opening (newest_moment calls)) written written_rise)
        went_on_once)

    -- and then goes
    pub goes_on_whole : (told_then : Txn) (facts : List Fact) → told_then ≡ told after → told_then ≡ Whole facts → (left new : Rows) → left ≡ went_on → new ≡ remove_entry (same_transaction key) left → IsDistinct same_transaction (keys_of new)
        → TransactionsStand new (call ∷ calls)
    goes_on_whole told_then facts told_is is_whole left new left_is removed once =
        let is_removed : new ≡ remove_entry (same_transaction key) went_on = removed ∙ ap (remove_entry (same_transaction key)) left_is in
        noted new
        (λ q.
        ap (lookup (same_transaction q)) is_removed
        ∙ lookup-remove_entry key_equiv (same_transaction key) (key_equiv.congr key) q went_on went_on_once
        ∙ ap (cond (same_transaction key q) None) (went_on_at q)
        ∙ elim (same_transaction key q) as (λ b. cond b None (cond b (Some after) (option_filter (is_open now) (lookup (same_transaction q) rows))) ≡ cond b (unless_whole gone) (option_filter (is_open now) (lookup (same_transaction q) rows))) [
          | true ↦ sym (ends_whole after facts (sym told_is ∙ is_whole)) ∙ ap unless_whole gone_on
          | false ↦ refl
        ])
        (subst (λ (others : Rows). RiseWithin (first_opening now) (opened_moments others) now) (sym is_removed)
        (one_removed opened (first_opening now) now (same_transaction key) went_on (open_rise now (first_opening (newest_moment calls)) written written_rise)))
        once

  -- ---- where none is open still
  module _ (after : Transaction) (none : is_kept_open now (lookup (same_transaction key) rows) ≡ false) (is : after ≡ with_brought call.brought (opened_at now)) where
    begun : after ≡ gone
    begun = is ∙ ap (with_brought call.brought) (sym (anew (lookup (same_transaction key) rows) none))
      where
        anew : (kept : Option Transaction) → is_kept_open now kept ≡ false → going now kept ≡ opened_at now
        anew None aged = refl
        anew (Some txn) aged = ap (λ b. cond b txn (opened_at now)) aged

    pub begins_answered : (told_then : Txn) → told_then ≡ told after → Answers call calls told_then
    begins_answered told_then told_is = answers told_then (told_is ∙ ap told begun)

    abbrev pub still_open : Rows
    still_open = open_rows now rows

    still_open_at : (q : TransactionKey) → lookup (same_transaction q) still_open ≡ option_filter (is_open now) (lookup (same_transaction q) rows)
    still_open_at q = lookup-filter-values key_equiv (is_open now) q rows stands.once

    all_rise : RiseWithin (first_opening (newest_moment calls)) (opened_moments rows) now
    all_rise = to_later (first_opening (newest_moment calls)) (newest_moment calls) now (opened_moments rows) in_time stands.ordered

    -- once those that aren't open any more are dropped, these are left
    pub left_before : (mid left : Rows) → mid ≡ rows → ((first last : ℕ) → RiseWithin first (opened_moments mid) last → left ≡ open_rows now mid) → left ≡ still_open
    left_before mid left mid_is dropped =
        dropped (first_opening (newest_moment calls)) now (subst (λ (others : Rows). RiseWithin (first_opening (newest_moment calls)) (opened_moments others) now) (sym mid_is) all_rise)
        ∙ ap (open_rows now) mid_is

    -- of the message's sender and id none is
    none_still : (q : TransactionKey) → same_transaction key q ≡ true → lookup (same_transaction q) still_open ≡ None
    none_still q same =
        still_open_at q
        ∙ ap (λ (k : TransactionKey). option_filter (is_open now) (lookup (same_transaction k) rows)) (sym (key_exact key q same))
        ∙ gone_then (lookup (same_transaction key) rows) none
      where
        gone_then : (kept : Option Transaction) → is_kept_open now kept ≡ false → option_filter (is_open now) kept ≡ None
        gone_then None aged = refl
        gone_then (Some txn) aged = ap (λ b. cond b (Some txn) None) aged

    still_rise : RiseWithin (first_opening now) (opened_moments still_open) now
    still_rise = open_rise now (first_opening (newest_moment calls)) rows all_rise

    -- it stays behind the others, unless it is whole
    pub begins_open : (told_then : Txn) (have : ℕ) (want : Option ℕ) → told_then ≡ told after → told_then ≡ Open have want → {S : Type 0} (left : IndexMap TransactionKey Transaction S) (new : Rows) → left.entries ≡ still_open
        → new ≡ insert_entry same_transaction left.entries key after
        → ((q : TransactionKey) → lookup (same_transaction q) new ≡ cond (same_transaction key q) (Some after) (lookup (same_transaction q) left.entries)) → IsDistinct same_transaction (keys_of new)
        → TransactionsStand new (call ∷ calls)
    begins_open told_then have want told_is is_open_still left new left_is pushed updates once =
        let absent : get same_transaction left key ≡ None = ap (lookup (same_transaction key)) left_is ∙ none_still key same_itself in
        let behind : new ≡ still_open ++ (key, after) ∷ [] = pushed ∙ insert_entry-new same_transaction left key after absent ∙ ap (λ (others : Rows). others ++ (key, after) ∷ []) left_is in
        noted new
        (λ q.
        updates q
        ∙ ap₂ (cond (same_transaction key q)) (sym (stays_open after have want (sym told_is ∙ is_open_still)) ∙ ap unless_whole begun) (ap (lookup (same_transaction q)) left_is ∙ still_open_at q))
        (subst (λ (others : Rows). RiseWithin (first_opening now) (opened_moments others) now) (sym behind)
        (one_opened opened (first_opening now) now still_open (key, after) (ap opened is ∙ keeps_opening call.brought (opened_at now)) still_rise))
        once

    -- and then isn't kept
    pub begins_whole : (told_then : Txn) (facts : List Fact) → told_then ≡ told after → told_then ≡ Whole facts → (new : Rows) → new ≡ still_open → TransactionsStand new (call ∷ calls)
    begins_whole told_then facts told_is is_whole new left =
        subst (λ (others : Rows). TransactionsStand others (call ∷ calls)) (sym left)
        (noted still_open
        (λ q. go q (same_transaction key q) refl)
        still_rise
        (IsDistinct-keys_filter same_transaction (λ (row : TransactionKey × Transaction). is_open now row.1) rows stands.once))
      where
        go : (q : TransactionKey) (b : Bool) → same_transaction key q ≡ b → lookup (same_transaction q) still_open ≡ cond b (unless_whole gone) (option_filter (is_open now) (lookup (same_transaction q) rows))
        go q true same = none_still q same ∙ sym (ends_whole after facts (sym told_is ∙ is_whole)) ∙ ap unless_whole begun
        go q false other = still_open_at q
