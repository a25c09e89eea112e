-- Moments that never fall: which rows are open still, and what is left of their order.
use Rattle.std.proofs.Common.{◌≡◌, ◌≤◌, ◌-◌, ℕ, Bool, true, false, cond, [], ◌∷◌, filter, slice_get, IfSome, Option, None, Some, refl, sym, ap, subst, arith}
use Rattle.std.proofs.lemmas.Bool.{lt-ltb, le-ltb, ltb-true, ltb-false}
use Rattle.std.proofs.lemmas.Map.Entries.{option_filter}
use Rattle.mesh_model.specs.Services.Transactions.{Transaction, going, opened_at, transaction_age}
use Rattle.mesh_laws.specs.Rising.{RiseWithin}
use Rattle.mesh_laws.proofs.RisingMoments.{all_open, first_open as all_from_first}
use Rattle.alfred_core.specs.Kept.{is_open}
use Rattle.alfred_core.specs.Transactions.{Rows, first_opening, opened_moments}
use Rattle.alfred_core.specs.declared.transactions.TransactionKey.{TransactionKey}

-- the moment at which a transaction was opened
abbrev pub opened : Transaction → ℕ
opened txn = txn.opened

-- the rows of what is open still
abbrev pub open_rows : ℕ → Rows → Rows
open_rows now rows = filter (λ (row : TransactionKey × Transaction). is_open now row.1) rows

module _ (now : ℕ) where
  since_open : (txn : Transaction) → is_open now txn ≡ true → first_opening now ≤ txn.opened
  since_open txn is = let lt = ltb-true (now - txn.opened) transaction_age is in omega (arith, lt)

  -- what was opened no earlier than what is open still is open still
  as_open : (one other : Transaction) → is_open now one ≡ true → one.opened ≤ other.opened → is_open now other ≡ true
  as_open one other is le = let open_still = ltb-true (now - one.opened) transaction_age is in lt-ltb (now - other.opened) transaction_age (omega (arith, open_still, le))

  -- where the first row is open still, all are
  pub first_open : (first last : ℕ) (rows : Rows) → IfSome (slice_get rows 0) (λ (row : TransactionKey × Transaction). is_open now row.1 ≡ true) → RiseWithin first (opened_moments rows) last → open_rows now rows ≡ rows
  first_open first last rows is rise = all_from_first opened (is_open now) as_open first last rows is rise

  -- what is open still rises from the first moment at which it may have been opened
  pub open_rise : (first : ℕ) (rows : Rows) → RiseWithin first (opened_moments rows) now → RiseWithin (first_opening now) (opened_moments (open_rows now rows)) now
  open_rise first [] rise = omega arith
  open_rise first (row ∷ rows) rise = go (is_open now row.1) refl (open_rise row.1.opened rows rise.1)
    where
      go : (b : Bool) → is_open now row.1 ≡ b → RiseWithin (first_opening now) (opened_moments (open_rows now rows)) now
          → RiseWithin (first_opening now) (opened_moments (cond b (row ∷ open_rows now rows) (open_rows now rows))) now
      go true is rest =
          (since_open row.1 is, subst (λ (others : Rows). RiseWithin row.1.opened (opened_moments others) now) (sym (all_open opened (is_open now) as_open row.1 now rows is rise.1)) rise.1)
      go false is rest = rest

  -- a message goes on with what is open still as with all that is kept
  pub going_open : (later : ℕ) → now ≤ later → (kept : Option Transaction) → going later (option_filter (is_open now) kept) ≡ going later kept
  going_open later le None = refl
  going_open later le (Some txn) = go (is_open now txn) refl
    where
      go : (b : Bool) → is_open now txn ≡ b → going later (cond b (Some txn) None) ≡ going later (Some txn)
      go true is = refl
      go false is =
          let aged = ltb-false (now - txn.opened) transaction_age is in
          sym (ap (λ b. cond b txn (opened_at later)) (le-ltb (later - txn.opened) transaction_age (omega (arith, aged, le))))
