-- The alias of a commit, looked for among the earlier commits of its byte.
use Rattle.std.proofs.Common.{◌≡◌, ◌⊎◌, inl, inr, ⊎_elim, ℕ, suc, ◌+◌, ◌-◌, ◌<◌, ◌==◌, ◌&&◌, ◌||◌, ◌++◌, Bool, true, false, not, cond, List, [], ◌∷◌, drop, length, Option, Some, None, is_none, is_some, min, option_map, IsTrue, ◌↔◌, nat_eq, refl, sym, ap, ap₂, ◌∙◌, subst, arith}
use Rattle.std.specs.Bool.{Decides}
use Rattle.std.specs.Cmp.Lexicographic.{pointwise}
use Rattle.std.specs.Option.{option_or}
use Rattle.std.proofs.lemmas.Bool.{and_from, and_parts, eqb-true, eq-eqb, ne_eqb, false≢true, true≢false}
use Rattle.mesh_base.specs.declared.client.Entry.{Entry}
use Rattle.mesh_model.specs.Packets.Bodies.{VlanSum}
use Rattle.mesh_model.specs.Commits.Aliases.{alias_before, alias_of, are_aliases, commits_until, last_alias}
use Rattle.mesh_model.specs.Commits.Versions.{commit_numbered, same_table}
use Rattle.mesh_model.specs.Tables.Differences.{first_difference}
use Rattle.mesh_model.specs.Tables.Sums.{sums_of}
use Rattle.mesh_model.specs.Tables.Versions.{Version}
use Rattle.mesh_model.specs.Routes.Addresses.{same_mac}
use Rattle.mesh_laws.proofs.MacLemmas.{same_exact, same_self}
use Rattle.mesh_laws.proofs.MachineInvariant.{last_numbered, number_below, numbered_kept}
use Rattle.tt_local.specs.AliasSearch.{AreAliasesAt, ArePassed, HaveOneByte, IsPassed}
use Rattle.std.specs.List.{list_any}
use Rattle.tt_local.specs.Journal.{HasSums, HasTable, HasTableOf}
use Rattle.tt_local.proofs.CommitLemmas.{from_same_table, same_from_equal}
use Rattle.tt_local.proofs.NumberedLemmas.{newest_or_not, older_number}

-- ---- bytes
pub other_byte : (one other : Version) → (one.byte ≡ other.byte → ⊥) → are_aliases one other ≡ false
other_byte one other differ = ap (λ b. b && (is_none (first_difference (sums_of one.table) (sums_of other.table)) && not (same_table one.table other.table))) (ne_eqb one.byte other.byte differ)

-- ---- the commits before a commit
-- none of them is an alias
pub none_before : (w : Version) (older : List Version) → ((n : ℕ) (v : Version) → commit_numbered n older ≡ Some v → are_aliases w v ≡ false) → alias_before w older ≡ None
none_before w [] none = refl
none_before w (c ∷ rest) none = ap₂ (λ (o : Option ℕ) (b : Bool). option_or o (cond b (Some (length rest)) None))
    (none_before w rest (λ n v h. none n v (numbered_kept c n rest v h))) (none (length rest) c (last_numbered c rest))

-- one is, and none below it
pub found_before : (w : Version) (older : List Version) (e : ℕ) (v : Version) → commit_numbered e older ≡ Some v → are_aliases w v ≡ true → ((n : ℕ) (u : Version) → n < e → commit_numbered n older ≡ Some u → are_aliases w u ≡ false) → alias_before w older ≡ Some e
found_before w [] e v h is none = cc
found_before w (c ∷ rest) e v h is none = go (λ there. found_before w rest e v there is (λ n u below at. none n u below (numbered_kept c n rest u at))) (newest_or_not c v e rest h)
  where
    go : (commit_numbered e rest ≡ Some v → alias_before w rest ≡ Some e) → ((e ≡ length rest) × (v ≡ c)) ⊎ ((e < length rest) × (commit_numbered e rest ≡ Some v)) → alias_before w (c ∷ rest) ≡ Some e
    go before (inl p) =
        let below : (n : ℕ) (u : Version) → commit_numbered n rest ≡ Some u → are_aliases w u ≡ false = λ n u at.
        none n u (subst (λ k. n < k) (sym p.0) (number_below n rest u at)) (numbered_kept c n rest u at) in
        ap₂ (λ (o : Option ℕ) (b : Bool). option_or o (cond b (Some (length rest)) None)) (none_before w rest below) (ap (are_aliases w) (sym p.1) ∙ is) ∙ ap Some (sym p.0)
    go before (inr p) = ap (λ (o : Option ℕ). option_or o (cond (are_aliases w c) (Some (length rest)) None)) (before p.1)

-- a commit and those before it
pub record Until (number : ℕ) (w : Version) (cs : List Version) : Type 0 where
  pub older : List Version
  pub is : commits_until number cs ≡ w ∷ older
  pub count : length older ≡ number
  pub kept : (n : ℕ) (v : Version) → commit_numbered n older ≡ Some v → commit_numbered n cs ≡ Some v
  pub below : (n : ℕ) (v : Version) → n < number → commit_numbered n cs ≡ Some v → commit_numbered n older ≡ Some v

until_more : (c : Version) (rest : List Version) (number : ℕ) (w : Version) → number < length rest → Until number w rest → Until number w (c ∷ rest)
until_more c rest number w within until = record {
  older = until.older;
  is = ap (λ k. drop k (c ∷ rest)) more ∙ until.is;
  count = until.count;
  kept = λ n v h. numbered_kept c n rest v (until.kept n v h);
  below = λ n v at h. until.below n v at (sym (older_number c n rest (omega (arith, at, within))) ∙ h);
}
  where
    more : suc (length rest) - suc number ≡ suc (length rest - suc number)
    more = omega (arith, within)

until_newest : (c w : Version) (rest : List Version) (number : ℕ) → number ≡ length rest → w ≡ c → Until number w (c ∷ rest)
until_newest c w rest number at is = record {
  older = rest;
  is = ap (λ k. drop k (c ∷ rest)) none ∙ ap (λ x. x ∷ rest) (sym is);
  count = sym at;
  kept = λ n v h. numbered_kept c n rest v h;
  below = λ n v below h. sym (older_number c n rest (omega (arith, below, at))) ∙ h;
}
  where
    none : suc (length rest) - suc number ≡ 0
    none = omega (arith, at)

pub until : (cs : List Version) (number : ℕ) (w : Version) → commit_numbered number cs ≡ Some w → Until number w cs
until [] number w h = cc
until (c ∷ rest) number w h = ⊎_elim (λ p. until_newest c w rest number p.0 p.1) (λ p. until_more c rest number w p.0 (until rest number w p.1)) (newest_or_not c w number rest h)

-- ---- whether two commits of a byte are aliases
sums_are : (n : ℕ) (cs : List Version) (v : Version) (s : List VlanSum) → commit_numbered n cs ≡ Some v → HasSums n s cs → sums_of v.table ≡ s
sums_are n cs v s is has =
    let both : Some (sums_of v.table) ≡ Some s = ap (option_map (λ (w : Version). sums_of w.table)) (sym is) ∙ has in
    cc

table_is : (n : ℕ) (cs : List Version) (v : Version) (t : List Entry) → commit_numbered n cs ≡ Some v → HasTable n t cs → v.table ≡ t
table_is n cs v t is has =
    let both : Some v.table ≡ Some t = ap (option_map (λ (w : Version). w.table)) (sym is) ∙ has in
    cc

same_bytes : (cs : List Version) (number earlier : ℕ) (one other : Version) → HaveOneByte number earlier cs → commit_numbered number cs ≡ Some one → commit_numbered earlier cs ≡ Some other → (one.byte == other.byte) ≡ true
same_bytes cs number earlier one other same is at = eq-eqb one.byte other.byte (same one other is at)

told_sums : (number earlier : ℕ) (cs : List Version) (one other : Version) (s t : List VlanSum) (b : Bool) → commit_numbered number cs ≡ Some one → commit_numbered earlier cs ≡ Some other → HasSums number s cs → HasSums earlier t cs → is_none (first_difference s t) ≡ b → is_none (first_difference (sums_of one.table) (sums_of other.table)) ≡ b
told_sums number earlier cs one other s t b is at has others told =
    ap₂ (λ x y. is_none (first_difference x y)) (sums_are number cs one s is has) (sums_are earlier cs other t at others) ∙ told

-- they aren't where checksums differ
pub sums_tell : (cs : List Version) (number earlier : ℕ) (s t : List VlanSum) → HaveOneByte number earlier cs → HasSums number s cs → HasSums earlier t cs → is_none (first_difference s t) ≡ false → AreAliasesAt false number earlier cs
sums_tell cs number earlier s t same has others differ = λ one other is at.
    sym (ap₂ (λ b d. b && (d && not (same_table one.table other.table))) (same_bytes cs number earlier one other same is at)
    (told_sums number earlier cs one other s t false is at has others differ))

-- else they are where the tables differ
pub tables_tell : (cs : List Version) (number earlier : ℕ) (s t : List VlanSum) (a b : List Entry) (answer : Bool) → HaveOneByte number earlier cs → HasSums number s cs → HasSums earlier t cs → is_none (first_difference s t) ≡ true → HasTable number a cs → HasTable earlier b cs → (IsTrue answer ↔ (a ≡ b)) → AreAliasesAt (not answer) number earlier cs
tables_tell cs number earlier s t a b answer same has others none table other_table told = λ one other is at.
    sym (ap₂ (λ x d. x && (d && not (same_table one.table other.table))) (same_bytes cs number earlier one other same is at)
    (told_sums number earlier cs one other s t true is at has others none)
    ∙ ap not (ap₂ same_table (table_is number cs one a is table) (table_is earlier cs other b at other_table) ∙ by_answer answer told))
  where
    by_answer : (x : Bool) → (IsTrue x ↔ (a ≡ b)) → same_table a b ≡ x
    by_answer true p = same_from_equal a b (p.0 refl)
    by_answer false p = go (same_table a b) refl
      where
        go : (y : Bool) → same_table a b ≡ y → y ≡ false
        go true e = absurd (false≢true (p.1 (from_same_table a b e)))
        go false e = refl

-- ---- commits that have the table of another
-- where one of them isn't an alias, none of them is
pub passed_by : (cs : List Version) (number earlier twin : ℕ) (v : Version) → commit_numbered earlier cs ≡ Some v → HaveOneByte number earlier cs → HasTableOf twin earlier cs → AreAliasesAt false number earlier cs → IsPassed number twin cs
passed_by cs number earlier twin v there same twins are = λ n again twin_too one other is at.
    let its : HasTable twin v.table cs = twins v.table (ap (option_map (λ (w : Version). w.table)) there) in
    let others : HasTable twin other.table cs = twin_too other.table (ap (option_map (λ (w : Version). w.table)) at) in
    let both : Some v.table ≡ Some other.table = sym its ∙ others in
    let tables : v.table ≡ other.table = cc in
    let bytes : v.byte ≡ other.byte = sym (same one v is there) ∙ again one other is at in
    are one v is there ∙ ap₂ (λ (b : ℕ) (t : List Entry). are_aliases one (record { byte = b; table = t })) bytes tables

-- one of those that were passed over was
pub passed_any : (cs : List Version) (number twin : ℕ) (passed : List ℕ) → ArePassed number passed cs → list_any (nat_eq twin) passed ≡ true → IsPassed number twin cs
passed_any cs number twin [] are is = absurd (false≢true is)
passed_any cs number twin (first ∷ others) are is = go (nat_eq twin first) refl (passed_any cs number twin others are.1)
  where
    go : (b : Bool) → nat_eq twin first ≡ b → (list_any (nat_eq twin) others ≡ true → IsPassed number twin cs) → IsPassed number twin cs
    go true same rest = subst (λ t. IsPassed number t cs) (sym (eqb-true twin first same)) are.0
    go false same rest = rest (ap (λ b. b || list_any (nat_eq twin) others) (sym same) ∙ is)

-- and one more was
pub passed_more : (cs : List Version) (number twin : ℕ) (passed : List ℕ) → ArePassed number passed cs → IsPassed number twin cs → ArePassed number (passed ++ twin ∷ []) cs
passed_more cs number twin [] are is = (is, are)
passed_more cs number twin (first ∷ others) are is = (are.0, passed_more cs number twin others are.1 is)

-- the last table is that of the commit before it, if they are one
pub twin_of_last : (cs : List Version) (last before twin : ℕ) (mine its : List Entry) → HasTable last mine cs → HasTable before its cs → mine ≡ its → HasTableOf twin before cs → HasTableOf twin last cs
twin_of_last cs last before twin mine its has others same twins = λ table is.
    let both : Some mine ≡ Some table = sym has ∙ is in
    let tables : mine ≡ table = cc in
    twins table (subst (λ t. HasTable before t cs) (sym same ∙ tables) others)

-- ---- whether two tables are one
entry_decides : (a b : Entry) → Decides ((same_mac a.key.mac b.key.mac && nat_eq a.key.vid.0 b.key.vid.0) && nat_eq a.flags b.flags) (a ≡ b)
entry_decides a b = (
  λ t.
      let p = and_parts (same_mac a.key.mac b.key.mac && nat_eq a.key.vid.0 b.key.vid.0) (nat_eq a.flags b.flags) t in
      let q = and_parts (same_mac a.key.mac b.key.mac) (nat_eq a.key.vid.0 b.key.vid.0) p.0 in
      let mac = same_exact a.key.mac b.key.mac q.0 in
      let vid = eqb-true a.key.vid.0 b.key.vid.0 q.1 in
      let flags = eqb-true a.flags b.flags p.1 in
      λ i. record { key = record { mac = mac i; vid = record { 0 = vid i } }; flags = flags i },
  λ e. subst (λ (x : Entry). ((same_mac a.key.mac x.key.mac && nat_eq a.key.vid.0 x.key.vid.0) && nat_eq a.flags x.flags) ≡ true) e
      (and_from _ _ (and_from _ _ (same_self a.key.mac) (eq-eqb a.key.vid.0 a.key.vid.0 refl)) (eq-eqb a.flags a.flags refl)),
)

pub list_decides : {A : Type 0} (E : A → A → Bool) → ((a b : A) → Decides (E a b) (a ≡ b)) → (xs ys : List A) → Decides (pointwise E xs ys) (xs ≡ ys)
list_decides E each [] [] = (λ t. refl, λ e. refl)
list_decides E each [] (y ∷ ys) = (λ t. absurd (false≢true t), λ e. cc)
list_decides E each (x ∷ xs) [] = (λ t. absurd (false≢true t), λ e. cc)
list_decides E each (x ∷ xs) (y ∷ ys) =
    let rest = list_decides E each xs ys in (
      λ t. let p = and_parts (E x y) (pointwise E xs ys) t in ap₂ (λ z zs. z ∷ zs) ((each x y).0 p.0) (rest.0 p.1),
      λ e. and_from (E x y) (pointwise E xs ys) ((each x y).1 cc) (rest.1 cc),
    )

pub tables_decide : (xs ys : List Entry) → Decides (pointwise (λ (a b : Entry). (same_mac a.key.mac b.key.mac && nat_eq a.key.vid.0 b.key.vid.0) && nat_eq a.flags b.flags) xs ys) (xs ≡ ys)
tables_decide = list_decides (λ (a b : Entry). (same_mac a.key.mac b.key.mac && nat_eq a.key.vid.0 b.key.vid.0) && nat_eq a.flags b.flags) entry_decides

pub none_from_some : {T : Type 0} (o : Option T) → is_some o ≡ false → is_none o ≡ true
none_from_some None e = refl
none_from_some (Some x) e = absurd (true≢false e)

-- ---- numbers past the last commit
pub alias_within : (number last : ℕ) (cs : List Version) → length cs ≡ last + 1 → alias_of (min number last) cs ≡ alias_of number cs
alias_within number last cs long =
    let same : length cs - suc (min number last) ≡ length cs - suc number = grind (arith, long) in
    ap (λ k. last_alias (drop k cs)) same

pub newest_alias : (number : ℕ) (cs : List Version) → number + 1 ≡ length cs → alias_of number cs ≡ last_alias cs
newest_alias number cs is =
    let none : length cs - suc number ≡ 0 = omega (arith, is) in
    ap (λ k. last_alias (drop k cs)) none
