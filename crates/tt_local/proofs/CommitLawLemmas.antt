-- What the laws of commits rest on.
use Rattle.std.proofs.Common.{◌≡◌, ◌⊎◌, inl, inr, ⊎_elim, ℕ, ◌<◌, ◌&&◌, Bool, true, false, not, cond, List, [], ◌∷◌, length, Option, Some, None, is_none, nat_lt, nat_eq, refl, sym, ap, ap₂, ◌∙◌, arith}
use Rattle.std.specs.Option.{option_or}
use Rattle.std.proofs.lemmas.Bool.{eq-eqb, eqb-true, true≢false}
use Rattle.std.proofs.lemmas.Bool.Decides.{nat_tests}
use Rattle.mesh_model.specs.Commits.Aliases.{alias_before, alias_of, are_aliases, last_alias}
use Rattle.mesh_model.specs.Commits.Versions.{commit_numbered, same_table}
use Rattle.mesh_model.specs.Tables.Differences.{first_difference}
use Rattle.mesh_model.specs.Tables.Sums.{checksums, sums_of}
use Rattle.mesh_model.specs.Tables.Versions.{Version}
use Rattle.mesh_laws.proofs.AnnouncedSums.{announces_checksums}
use Rattle.mesh_laws.proofs.DifferenceLemmas.{finds_each_difference}
use Rattle.mesh_laws.proofs.MachineInvariant.{number_below}
use Rattle.tt_local.specs.CommitLaws.{NoAliasWasSeen, TablesStay}
use Rattle.tt_local.proofs.AliasLemmas.{until}
use Rattle.tt_local.proofs.CommitLemmas.{from_same_table}
use Rattle.tt_local.proofs.NumberedLemmas.{newest_or_not, table_kept}

pub tables_stay : TablesStay
tables_stay number table version commits has = table_kept version number table commits has

-- where no commit before a commit is its alias, each of them is none
none_at : (w : Version) (older : List Version) → alias_before w older ≡ None → (k : ℕ) (v : Version) → commit_numbered k older ≡ Some v → are_aliases w v ≡ false
none_at w [] e k v h = cc
none_at w (c ∷ rest) e k v h = go (alias_before w rest) refl (are_aliases w c) refl e (newest_or_not c v k rest h) (λ before there. none_at w rest before k v there)
  where
    go : (o : Option ℕ) → alias_before w rest ≡ o → (b : Bool) → are_aliases w c ≡ b → option_or o (cond b (Some (length rest)) None) ≡ None → ((k ≡ length rest) × (v ≡ c)) ⊎ ((k < length rest) × (commit_numbered k rest ≡ Some v)) → (alias_before w rest ≡ None → commit_numbered k rest ≡ Some v → are_aliases w v ≡ false) → are_aliases w v ≡ false
    go None before false is e (inl p) older = ap (are_aliases w) p.1 ∙ is
    go None before false is e (inr p) older = older before p.1
    go None before true is e place older = cc
    go (Some n) before b is e place older = cc

-- an earlier commit of the same byte and checksums has the same table
earlier_same : (cs : List Version) (n m : ℕ) (one other : Version) → commit_numbered n cs ≡ Some one → commit_numbered m cs ≡ Some other → m < n → alias_of n cs ≡ None → one.byte ≡ other.byte → checksums one.table ≡ checksums other.table → one.table ≡ other.table
earlier_same cs n m one other is at less none bytes sums =
    let u = until cs n one is in
    let before : alias_before one u.older ≡ None = ap last_alias (sym u.is) ∙ none in
    let off : are_aliases one other ≡ false = none_at one u.older before m other (u.below m other less at) in
    let agree : first_difference (sums_of one.table) (sums_of other.table) ≡ None =
    (finds_each_difference (sums_of one.table) (sums_of other.table)).1 (announces_checksums one.table ∙ sums ∙ sym (announces_checksums other.table)) in
    let told : not (same_table one.table other.table) ≡ false =
    sym (ap₂ (λ b d. b && (is_none d && not (same_table one.table other.table))) (eq-eqb one.byte other.byte bytes) agree) ∙ off in
    go (same_table one.table other.table) refl told
  where
    go : (b : Bool) → same_table one.table other.table ≡ b → not b ≡ false → one.table ≡ other.table
    go true e told = from_same_table one.table other.table e
    go false e told = absurd (true≢false told)

-- a number is below another, is that, or is above
order_of : (n m : ℕ) → (n < m) ⊎ ((n ≡ m) ⊎ (m < n))
order_of n m = cases (nat_lt n m) refl (nat_eq n m) refl
  where
    cases : (b : Bool) → nat_lt n m ≡ b → (d : Bool) → nat_eq n m ≡ d → (n < m) ⊎ ((n ≡ m) ⊎ (m < n))
    cases true l d e = inl (grind (arith, nat_tests, l))
    cases false l true e = inr (inl (eqb-true n m e))
    cases false l false e = inr (inr (grind (arith, nat_tests, l, e)))

pub no_alias_seen : NoAliasWasSeen
no_alias_seen cs none = λ one other is_one is_other bytes sums.
    ⊎_elim (λ less. sym (earlier_same cs is_other.0 is_one.0 other one is_other.1 is_one.1 less (none is_other.0 (number_below is_other.0 cs other is_other.1)) (sym bytes) (sym sums)))
    (⊎_elim
    (λ same. ap (λ (v : Version). v.table) (same_commit cs is_one.0 is_other.0 one other same is_one.1 is_other.1))
    (λ less. earlier_same cs is_one.0 is_other.0 one other is_one.1 is_other.1 less (none is_one.0 (number_below is_one.0 cs one is_one.1)) bytes sums))
    (order_of is_one.0 is_other.0)
  where
    same_commit : (commits : List Version) (n m : ℕ) (one other : Version) → n ≡ m → commit_numbered n commits ≡ Some one → commit_numbered m commits ≡ Some other → one ≡ other
    same_commit commits n m one other same is at =
        let both : Some one ≡ Some other = sym is ∙ ap (λ k. commit_numbered k commits) same ∙ at in
        cc
