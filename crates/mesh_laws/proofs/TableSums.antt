-- How changes move the checksums of tables.
use Rattle.std.proofs.Common.{◌≡◌, ℕ, Bool, true, false, cond, not, ◌==◌, List, [], ◌∷◌, ◌++◌, map, filter, bit_xor, Option, Some, None, option_map, Ok, Ordering, Less, Equal, Greater, refl, sym, ap, ap₂, ◌∙◌, ok_or}
use Rattle.std.specs.Int.Bits.{xor_assoc, xor_self, xor_zero_l, xor_zero_r}
use Rattle.std.specs.Ordering.{is_eq, match_ordering}
use Rattle.std.proofs.Math.Path.{fun_ext}
use Rattle.std.proofs.lemmas.Bool.{and_from}
use Rattle.std.proofs.lemmas.Nat.{xor_comm}
use Rattle.mesh_base.specs.KeyOrder.{key_order}
use Rattle.mesh_base.specs.declared.client.Entry.{Entry}
use Rattle.mesh_base.specs.declared.client.Vid.{Vid}
use Rattle.mesh_model.specs.declared.table_change.Change.{Change}
use Rattle.mesh_model.specs.Tables.Changes.{changed_entries}
use Rattle.mesh_model.specs.Tables.Strict.{change_each, change_one, without_entry, with_entry, deletions, additions, and_then}
use Rattle.mesh_model.specs.Tables.Sums.{checksums, entry_sum, is_in_vlan, xor_of}
use Rattle.mesh_laws.specs.TableLaws.{XorsChecksums, HadEqualChecksums}
use Rattle.mesh_laws.proofs.KeyTables.{equal_entries}

-- ---- what an entry brings
pub share : Entry → Vid → ℕ
share e v = cond (is_in_vlan v e) (entry_sum e) 0

pub sums_cons : (e : Entry) (t : List Entry) (v : Vid) → checksums (e ∷ t) v ≡ bit_xor (share e v) (checksums t v)
unfolding share
sums_cons e t v =
    elim (is_in_vlan v e) as (λ b. xor_of (map entry_sum (cond b (e ∷ filter (is_in_vlan v) t) (filter (is_in_vlan v) t))) ≡ bit_xor (cond b (entry_sum e) 0) (checksums t v)) [
      | true ↦ refl
      | false ↦ sym (xor_zero_l _)
    ]

swapped : (a b c : ℕ) → bit_xor a (bit_xor b c) ≡ bit_xor b (bit_xor a c)
swapped a b c = sym (xor_assoc a b c) ∙ ap (λ x. bit_xor x c) (xor_comm a b) ∙ xor_assoc b a c

pub without_sums : (e : Entry) (t u : List Entry) (v : Vid) → without_entry e t ≡ Some u → checksums t v ≡ bit_xor (share e v) (checksums u v)
without_sums e [] u v h = cc
without_sums e (f ∷ t) u v h = go (key_order e.key f.key) refl (e.flags == f.flags) refl (without_entry e t) (λ w. without_sums e t w v) h
  where
    go : (r : Ordering) → key_order e.key f.key ≡ r → (b : Bool) → (e.flags == f.flags) ≡ b → (o : Option (List Entry)) → ((w : List Entry) → o ≡ Some w → checksums t v ≡ bit_xor (share e v) (checksums w v)) → match_ordering r None (cond b (Some t) None) (option_map (λ w. f ∷ w) o) ≡ Some u → checksums (f ∷ t) v ≡ bit_xor (share e v) (checksums u v)
    go Less k b q o ih h = cc
    go Equal k true q o ih h =
        let same : t ≡ u = cc in
        sums_cons f t v ∙ ap₂ (λ x w. bit_xor (share x v) (checksums w v)) (sym (equal_entries e f (and_from _ _ (ap is_eq k) q))) same
    go Equal k false q o ih h = cc
    go Greater k b q None ih h = cc
    go Greater k b q (Some w) ih h =
        let same : f ∷ w ≡ u = cc in
        sums_cons f t v ∙ ap (bit_xor (share f v)) (ih w refl) ∙ swapped (share f v) (share e v) (checksums w v)
        ∙ ap (bit_xor (share e v)) (sym (sums_cons f w v)) ∙ ap (λ x. bit_xor (share e v) (checksums x v)) same

pub with_sums : (e : Entry) (t u : List Entry) (v : Vid) → with_entry e t ≡ Some u → checksums u v ≡ bit_xor (share e v) (checksums t v)
with_sums e [] u v h =
    let same : u ≡ e ∷ [] = cc in
    ap (λ x. checksums x v) same ∙ sums_cons e [] v
with_sums e (f ∷ t) u v h = go (key_order e.key f.key) (with_entry e t) (λ w. with_sums e t w v) h
  where
    go : (r : Ordering) → (o : Option (List Entry)) → ((w : List Entry) → o ≡ Some w → checksums w v ≡ bit_xor (share e v) (checksums t v)) → match_ordering r (Some (e ∷ f ∷ t)) None (option_map (λ w. f ∷ w) o) ≡ Some u → checksums u v ≡ bit_xor (share e v) (checksums (f ∷ t) v)
    go Less o ih h =
        let same : u ≡ e ∷ f ∷ t = cc in
        ap (λ x. checksums x v) same ∙ sums_cons e (f ∷ t) v
    go Equal o ih h = cc
    go Greater None ih h = cc
    go Greater (Some w) ih h =
        let same : u ≡ f ∷ w = cc in
        ap (λ x. checksums x v) same ∙ sums_cons f w v ∙ ap (bit_xor (share f v)) (ih w refl) ∙ swapped (share f v) (share e v) (checksums t v)
        ∙ ap (bit_xor (share e v)) (sym (sums_cons f t v))

pub change_sums : (t u : List Entry) (c : Change) (v : Vid) → change_one c t ≡ Some u → checksums u v ≡ bit_xor (share c.entry v) (checksums t v)
change_sums t u c v h = go c.del h
  where
    go : (b : Bool) → cond b (without_entry c.entry t) (with_entry c.entry t) ≡ Some u → checksums u v ≡ bit_xor (share c.entry v) (checksums t v)
    go true h = sym (xor_zero_l _) ∙ ap (λ x. bit_xor x (checksums u v)) (sym (xor_self (share c.entry v))) ∙ xor_assoc (share c.entry v) (share c.entry v) (checksums u v) ∙ ap (bit_xor (share c.entry v)) (sym (without_sums c.entry t u v h))
    go false h = with_sums c.entry t u v h

-- ---- what a list of changes brings
pub brought : List Change → Vid → ℕ
brought cs v = checksums (changed_entries cs) v

pub each_sums : (t u : List Entry) (cs : List Change) (v : Vid) → change_each cs t ≡ Ok u → checksums u v ≡ bit_xor (checksums t v) (brought cs v)
unfolding brought
each_sums t u [] v h =
    let same : u ≡ t = cc in
    ap (λ x. checksums x v) same ∙ sym (xor_zero_r _)
each_sums t u (c ∷ cs) v h = go (change_one c t) refl (λ w. each_sums w u cs v) h
  where
    go : (o : Option (List Entry)) → change_one c t ≡ o → ((w : List Entry) → change_each cs w ≡ Ok u → checksums u v ≡ bit_xor (checksums w v) (brought cs v)) → and_then (change_each cs) (ok_or o c) ≡ Ok u → checksums u v ≡ bit_xor (checksums t v) (brought (c ∷ cs) v)
    go None p ih h = cc
    go (Some w) p ih h =
        ih w h ∙ ap (λ x. bit_xor x (brought cs v)) (change_sums t w c v p ∙ xor_comm (share c.entry v) (checksums t v)) ∙ xor_assoc (checksums t v) (share c.entry v) (brought cs v)
        ∙ ap (bit_xor (checksums t v)) (sym (sums_cons c.entry (map (λ d. d.entry) cs) v))

-- a change brings the same wherever it stands
brought_later : (c : Change) (ds rest : List Change) (v : Vid) → brought (ds ++ c ∷ rest) v ≡ bit_xor (share c.entry v) (brought (ds ++ rest) v)
unfolding brought
brought_later c [] rest v = sums_cons c.entry _ v
brought_later c (d ∷ ds) rest v =
    sums_cons d.entry _ v ∙ ap (bit_xor (share d.entry v)) (brought_later c ds rest v) ∙ swapped (share d.entry v) (share c.entry v) _
    ∙ ap (bit_xor (share c.entry v)) (sym (sums_cons d.entry _ v))

-- deletions first, the changes bring the same
brought_parted : (p : Change → Bool) (cs : List Change) (v : Vid) → brought (filter p cs ++ filter (λ c. not (p c)) cs) v ≡ brought cs v
unfolding brought
brought_parted p [] v = refl
brought_parted p (c ∷ cs) v =
    elim (p c) as (λ b. brought (cond b (c ∷ filter p cs) (filter p cs) ++ cond (not b) (c ∷ filter (λ d. not (p d)) cs) (filter (λ d. not (p d)) cs)) v ≡ brought (c ∷ cs) v) [
      | true ↦ sums_cons c.entry _ v ∙ ap (bit_xor (share c.entry v)) (brought_parted p cs v) ∙ sym (sums_cons c.entry _ v)
      | false ↦ brought_later c (filter p cs) (filter (λ d. not (p d)) cs) v ∙ ap (bit_xor (share c.entry v)) (brought_parted p cs v) ∙ sym (sums_cons c.entry _ v)
    ]

-- ---- the laws
pub checksums_xored : XorsChecksums
unfolding brought
checksums_xored t u cs h v = each_sums t u (deletions cs ++ additions cs) v h ∙ ap (bit_xor (checksums t v)) (brought_parted (λ c. c.del) cs v)

xor_cancel : (a b c : ℕ) → bit_xor a c ≡ bit_xor b c → a ≡ b
xor_cancel a b c h = back a ∙ ap (λ x. bit_xor x c) h ∙ sym (back b)
  where
    back : (n : ℕ) → n ≡ bit_xor (bit_xor n c) c
    back n = sym (xor_zero_r n) ∙ ap (bit_xor n) (sym (xor_self c)) ∙ sym (xor_assoc n c c)

pub had_equal_checksums : HadEqualChecksums
had_equal_checksums t u a b cs h k e = fun_ext (λ v. xor_cancel _ _ _ (sym (checksums_xored t a cs h v) ∙ ap (λ f. f v) e ∙ checksums_xored u b cs k v))
