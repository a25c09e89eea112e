-- How an entry put into a table, or taken out, changes the table's checksums and how many entries a VLAN has.
use Rattle.std.proofs.Common.{◌≡◌, ℕ, ◌+◌, Bool, true, false, cond, nat_eq, List, [], ◌∷◌, map, length, Option, Some, None, option_map, IsSome, bit_xor, refl, sym, ap, ◌∙◌, subst, arith, Less, Equal, Greater}
use Rattle.std.specs.Int.Bits.{xor_self, xor_zero_l, xor_zero_r}
use Rattle.std.proofs.lemmas.Bool.{eq-eqb, false≢true}
use Rattle.std.proofs.lemmas.Nat.{xor_comm}
use Rattle.mesh_base.specs.KeyOrder.{key_order}
use Rattle.mesh_base.specs.declared.client.Entry.{Entry}
use Rattle.mesh_base.specs.declared.client.Vid.{Vid}
use Rattle.mesh_model.specs.Tables.Strict.{change_one, with_entry, without_entry}
use Rattle.mesh_model.specs.Tables.Sums.{checksums, entries_in, entry_sum, is_in_vlan, xor_of}
use Rattle.mesh_model.specs.declared.table_change.Change.{Change}
use Rattle.tt_table.specs.Sums.{AreTotalsOf, HasOneChanged, IsNamed, entries_of, row_after, row_at, sum_of}
use Rattle.tt_table.specs.declared.vlan_total.VlanTotal.{VlanTotal}
use Rattle.tt_table.proofs.Crc.{xor_assoc}
use Rattle.tt_table.proofs.EntriesLemmas.{with_at, without_at}
use Rattle.tt_table.proofs.TakenBack.{behind, same_entry}
use Rattle.tt_table.proofs.TotalsLemmas.{at_one_or_others}

-- what an entry gives to the checksum of a VLAN, and to the number of its entries
abbrev pub share : Vid → Entry → ℕ
share vid entry = cond (is_in_vlan vid entry) (entry_sum entry) 0

abbrev pub tally : Vid → Entry → ℕ
tally vid entry = cond (is_in_vlan vid entry) 1 0

abbrev pub count : List Entry → Vid → ℕ
count table vid = length (entries_in vid table)

pub sum_cons : (vid : Vid) (entry : Entry) (table : List Entry) → checksums (entry ∷ table) vid ≡ bit_xor (share vid entry) (checksums table vid)
sum_cons vid entry table =
    elim (is_in_vlan vid entry) as (λ b. xor_of (map entry_sum (cond b (entry ∷ entries_in vid table) (entries_in vid table))) ≡ bit_xor (cond b (entry_sum entry) 0) (checksums table vid)) [
      | true ↦ refl
      | false ↦ sym (xor_zero_l (checksums table vid))
    ]

pub count_cons : (vid : Vid) (entry : Entry) (table : List Entry) → count (entry ∷ table) vid ≡ tally vid entry + count table vid
count_cons vid entry table =
    elim (is_in_vlan vid entry) as (λ b. length (cond b (entry ∷ entries_in vid table) (entries_in vid table)) ≡ cond b 1 0 + count table vid) [
      | true ↦ omega arith
      | false ↦ omega arith
    ]

xor_moved : (a b c : ℕ) → bit_xor a (bit_xor b c) ≡ bit_xor b (bit_xor a c)
xor_moved a b c = sym (xor_assoc a b c) ∙ ap (λ x. bit_xor x c) (xor_comm a b) ∙ xor_assoc b a c

-- with an entry more
record More (vid : Vid) (entry : Entry) (t u : List Entry) : Type 0 where
  sums : checksums u vid ≡ bit_xor (share vid entry) (checksums t vid)
  counts : count u vid ≡ tally vid entry + count t vid

more_here : (vid : Vid) (entry : Entry) (t : List Entry) → More vid entry t (entry ∷ t)
more_here vid entry t = record { sums = sum_cons vid entry t; counts = count_cons vid entry t }

more_behind : (vid : Vid) (entry first : Entry) (t u : List Entry) → More vid entry t u → More vid entry (first ∷ t) (first ∷ u)
more_behind vid entry first t u m = record {
  sums = sum_cons vid first u ∙ ap (bit_xor (share vid first)) m.sums ∙ xor_moved (share vid first) (share vid entry) (checksums t vid)
      ∙ ap (bit_xor (share vid entry)) (sym (sum_cons vid first t));
  counts = let a = count_cons vid first u in let b = m.counts in let c = count_cons vid first t in omega (arith, a, b, c);
}

more_with : (vid : Vid) (entry : Entry) (t u : List Entry) → with_entry entry t ≡ Some u → More vid entry t u
more_with vid entry [] u e = subst (More vid entry []) (let k : entry ∷ [] ≡ u = cc in k) (more_here vid entry [])
more_with vid entry (first ∷ rest) u e =
    elim (key_order entry.key first.key) as (λ r. key_order entry.key first.key ≡ r → More vid entry (first ∷ rest) u) [
      | Less ↦ λ p.
          let h = sym (with_at entry first rest Less p) ∙ e in
          subst (More vid entry (first ∷ rest)) (let k : entry ∷ first ∷ rest ≡ u = cc in k) (more_here vid entry (first ∷ rest))
      | Equal ↦ λ p. let h = sym (with_at entry first rest Equal p) ∙ e in absurd (let k : ⊥ = cc in k)
      | Greater ↦ λ p.
          let b = behind first (with_entry entry rest) u (sym (with_at entry first rest Greater p) ∙ e) in
          subst (More vid entry (first ∷ rest)) b.whole (more_behind vid entry first rest b.others (more_with vid entry rest b.others b.is))
    ] refl

more_without : (vid : Vid) (entry : Entry) (t u : List Entry) → without_entry entry t ≡ Some u → More vid entry u t
more_without vid entry [] u e = absurd (let k : ⊥ = cc in k)
more_without vid entry (first ∷ rest) u e =
    elim (key_order entry.key first.key) as (λ r. key_order entry.key first.key ≡ r → More vid entry u (first ∷ rest)) [
      | Less ↦ λ p. let h = sym (without_at entry first rest Less p) ∙ e in absurd (let k : ⊥ = cc in k)
      | Equal ↦ λ p. at_first p (nat_eq entry.flags first.flags) refl (sym (without_at entry first rest Equal p) ∙ e)
      | Greater ↦ λ p.
          let b = behind first (without_entry entry rest) u (sym (without_at entry first rest Greater p) ∙ e) in
          subst (λ l. More vid entry l (first ∷ rest)) b.whole (more_behind vid entry first b.others rest (more_without vid entry rest b.others b.is))
    ] refl
  where
    at_first : key_order entry.key first.key ≡ Equal → (b : Bool) → nat_eq entry.flags first.flags ≡ b → cond b (Some rest) None ≡ Some u → More vid entry u (first ∷ rest)
    at_first p true f h =
        subst (λ l. More vid entry l (first ∷ rest)) (let k : rest ≡ u = cc in k)
        (subst (λ x. More vid entry rest (x ∷ rest)) (same_entry entry first p f) (more_here vid entry rest))
    at_first p false f h = absurd (let k : ⊥ = cc in k)

-- ---- rows
pub no_entries : (table : List Entry) (vid : Vid) → count table vid ≡ 0 → checksums table vid ≡ 0
no_entries table vid e = none (entries_in vid table) e
  where
    none : (l : List Entry) → length l ≡ 0 → xor_of (map entry_sum l) ≡ 0
    none [] h = refl
    none (x ∷ xs) h = absurd (omega (arith, h))

apart : (vid : Vid) (entry : Entry) (t u : List Entry) → More vid entry t u → is_in_vlan vid entry ≡ false → (checksums u vid ≡ checksums t vid) × (count u vid ≡ count t vid)
apart vid entry t u m e = (
  m.sums ∙ ap (λ b. bit_xor (cond b (entry_sum entry) 0) (checksums t vid)) e ∙ xor_zero_l (checksums t vid),
  m.counts ∙ ap (λ b. cond b 1 0 + count t vid) e ∙ omega arith,
)

record Own (entry : Entry) (t u : List Entry) : Type 0 where
  sums : checksums u entry.key.vid ≡ bit_xor (entry_sum entry) (checksums t entry.key.vid)
  counts : count u entry.key.vid ≡ 1 + count t entry.key.vid

own : (entry : Entry) (t u : List Entry) → More entry.key.vid entry t u → Own entry t u
own entry t u m =
    let vid = entry.key.vid in
    let here = eq-eqb vid.0 vid.0 refl in record {
      sums = m.sums ∙ ap (λ b. bit_xor (cond b (entry_sum entry) 0) (checksums t vid)) here;
      counts = m.counts ∙ ap (λ b. cond b 1 0 + count t vid) here;
    }

module _ (entry : Entry) (old new : List VlanTotal) (t u : List Entry) (totals : AreTotalsOf old t) where
  totals_gained : with_entry entry t ≡ Some u → IsSome (row_at old entry.key.vid)
      → HasOneChanged entry.key.vid (option_map (row_after (entry_sum entry) false)) old new → AreTotalsOf new u
  totals_gained e some changed =
      let vid = entry.key.vid in
      let m = own entry t u (more_with vid entry t u e) in
      at_one_or_others (λ v o. (sum_of o ≡ checksums u v) × (entries_of o ≡ count u v)) vid (option_map (row_after (entry_sum entry) false)) old new changed
      (here (row_at old vid) some (totals vid).0 (totals vid).1 m.sums m.counts)
      (λ other o. let a = apart other entry t u (more_with other entry t u e) o in ((totals other).0 ∙ sym a.0, (totals other).1 ∙ sym a.1))
    where
      here : (o : Option VlanTotal) → IsSome o → sum_of o ≡ checksums t entry.key.vid → entries_of o ≡ count t entry.key.vid
          → checksums u entry.key.vid ≡ bit_xor (entry_sum entry) (checksums t entry.key.vid) → count u entry.key.vid ≡ 1 + count t entry.key.vid
          → (sum_of (option_map (row_after (entry_sum entry) false) o) ≡ checksums u entry.key.vid) × (entries_of (option_map (row_after (entry_sum entry) false) o) ≡ count u entry.key.vid)
      here None some s n sums counts = absurd (false≢true some)
      here (Some row) some s n sums counts =
          (xor_comm row.sum (entry_sum entry) ∙ ap (bit_xor (entry_sum entry)) s ∙ sym sums, omega (arith, n, counts))

  totals_lost : without_entry entry t ≡ Some u
      → HasOneChanged entry.key.vid (option_map (row_after (entry_sum entry) true)) old new → AreTotalsOf new u
  totals_lost e changed =
      let vid = entry.key.vid in
      let m = own entry u t (more_without vid entry t u e) in
      at_one_or_others (λ v o. (sum_of o ≡ checksums u v) × (entries_of o ≡ count u v)) vid (option_map (row_after (entry_sum entry) true)) old new changed
      (here (row_at old vid) (totals vid).0 (totals vid).1 m.sums m.counts)
      (λ other o. let a = apart other entry u t (more_without other entry t u e) o in ((totals other).0 ∙ a.0, (totals other).1 ∙ a.1))
    where
      here : (o : Option VlanTotal) → sum_of o ≡ checksums t entry.key.vid → entries_of o ≡ count t entry.key.vid
          → checksums t entry.key.vid ≡ bit_xor (entry_sum entry) (checksums u entry.key.vid) → count t entry.key.vid ≡ 1 + count u entry.key.vid
          → (sum_of (option_map (row_after (entry_sum entry) true) o) ≡ checksums u entry.key.vid) × (entries_of (option_map (row_after (entry_sum entry) true) o) ≡ count u entry.key.vid)
      here None s n sums counts = absurd (omega (arith, n, counts))
      here (Some row) s n sums counts =
          let w = entry_sum entry in let after = checksums u entry.key.vid in
          (ap (λ x. bit_xor x w) (s ∙ sums ∙ xor_comm w after) ∙ xor_assoc after w w ∙ ap (bit_xor after) (xor_self w) ∙ xor_zero_r after, omega (arith, n, counts))

  not_lost : without_entry entry t ≡ Some u → row_at old entry.key.vid ≡ None → ⊥
  not_lost e none =
      let m = own entry u t (more_without entry.key.vid entry t u e) in let n = (totals entry.key.vid).1 in let counts = m.counts in
      let zero = ap entries_of none in omega (arith, n, counts, zero)

-- rows that went along with a change
pub totals_followed : (c : Change) (s : ℕ) (old new : List VlanTotal) → s ≡ entry_sum c.entry → HasOneChanged c.entry.key.vid (option_map (row_after s c.del)) old new
    → (t u : List Entry) → AreTotalsOf old t → IsNamed old c → change_one c t ≡ Some u → AreTotalsOf new u
totals_followed c s old new sum changed t u totals named e =
    elim c.del as (λ b. (b ≡ false → IsSome (row_at old c.entry.key.vid)) → cond b (without_entry c.entry t) (with_entry c.entry t) ≡ Some u
    → HasOneChanged c.entry.key.vid (option_map (row_after (entry_sum c.entry) b)) old new → AreTotalsOf new u) [
      | true ↦ λ n h k. totals_lost c.entry old new t u totals h k
      | false ↦ λ n h k. totals_gained c.entry old new t u totals h (n refl) k
    ] named e (subst (λ x. HasOneChanged c.entry.key.vid (option_map (row_after x c.del)) old new) sum changed)

-- a change of a VLAN without a row isn't one of this table
pub none_followed : (c : Change) (old : List VlanTotal) → row_at old c.entry.key.vid ≡ None → (t u : List Entry) → AreTotalsOf old t → IsNamed old c → change_one c t ≡ Some u → AreTotalsOf old u
none_followed c old none t u totals named e =
    elim c.del as (λ b. (b ≡ false → IsSome (row_at old c.entry.key.vid)) → cond b (without_entry c.entry t) (with_entry c.entry t) ≡ Some u → AreTotalsOf old u) [
      | true ↦ λ n h. absurd (not_lost c.entry old old t u totals h none)
      | false ↦ λ n h. absurd (false≢true (subst (λ o. IsSome o) none (n refl)))
    ] named e
