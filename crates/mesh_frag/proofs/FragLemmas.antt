-- How what is kept of assemblies goes along with a part.
use Rattle.std.proofs.Common.{◌≡◌, ◌≤◌, ◌-◌, ◌==◌, ◌&&◌, ℕ, Bool, true, false, cond, nat_eq, nat_lt, List, [], ◌∷◌, ◌++◌, length, IsSomeAnd, is_some, Option, None, Some, unwrap_or, refl, sym, ap, ap₂, ◌∙◌, subst}
use Rattle.std.specs.Cmp.{IsEquivalence}
use Rattle.std.specs.List.{IsDistinct}
use Rattle.std.specs.Map.{keys_of, lookup, remove_entry, set_value}
use Rattle.std.proofs.Math.Bool.{and_assoc}
use Rattle.std.proofs.lemmas.Bool.{and_parts, eqb-true}
use Rattle.std.proofs.lemmas.Cmp.{and_equiv, nat_eq_equiv, on_equiv}
use Rattle.std.proofs.lemmas.Map.{keys-set_value, lookup-remove_entry, lookup-set_value}
use Rattle.std.proofs.lemmas.Map.Entries.{lookup-filter-values, option_filter}
use Rattle.std.proofs.lemmas.Map.Made.{IsDistinct-keys_filter}
use Rattle.indexmap.specs.IndexMap.{IndexMap, get, insert_entry}
use Rattle.indexmap.proofs.CallerLemmas.{insert_entry-new}
use Rattle.mesh_model.specs.Fragments.Assembly.{Assembly, PartCall, goes_to, if_not_whole, is_part_of, new_assembly, part_of, standing, whole_of, with_part}
use Rattle.mesh_model.specs.Routes.Addresses.{same_mac}
use Rattle.mesh_laws.specs.Rising.{RiseWithin}
use Rattle.mesh_laws.proofs.MacLemmas.{same_equiv, same_exact}
use Rattle.mesh_laws.proofs.RisingMoments.{one_opened, one_removed, one_written, to_later}
use Rattle.mesh_frag.specs.Frags.{Answers, FragsStand, Rows, assembly_of, newest_moment, opened_moments, same_assembly}
use Rattle.mesh_frag.specs.Kept.{is_kept_young, is_young, told, told_with}
use Rattle.mesh_frag.specs.declared.frag.Frag.{Frag}
use Rattle.mesh_frag.specs.declared.frag.Frag.TheVariants.{Open, Whole}
use Rattle.mesh_frag.specs.declared.frags.AssemblyKey.{AssemblyKey}
use Rattle.mesh_frag.proofs.MomentLemmas.{filtered, goes_anew, goes_on_with, goes_to_young, opened, standing_later, young_rise, young_rows}

-- ---- what an assembly is known by
key_equiv : IsEquivalence same_assembly
key_equiv = and_equiv (on_equiv (λ (k : AssemblyKey). k.orig) same_equiv) (and_equiv (on_equiv (λ (k : AssemblyKey). k.seq) nat_eq_equiv) (on_equiv (λ (k : AssemblyKey). k.total) nat_eq_equiv))

key_exact : (a b : AssemblyKey) → same_assembly a b ≡ true → a ≡ b
key_exact a b is =
    let parts = and_parts (same_mac a.orig b.orig) ((a.seq == b.seq) && (a.total == b.total)) is in
    let numbers = and_parts (a.seq == b.seq) (a.total == b.total) parts.1 in
    λ i. record { orig = same_exact a.orig b.orig parts.0 i; seq = eqb-true a.seq b.seq numbers.0 i; total = eqb-true a.total b.total numbers.1 i }

-- ---- what is told
-- an answer, by what is made whole and what is open then
abbrev Tells : Option (List ℕ) → Option Assembly → Frag → Type 0
Tells made open_then (Whole bytes) = made ≡ Some bytes
Tells made open_then (Open have) = (made ≡ None) × IsSomeAnd open_then (λ assembly. have ≡ length assembly.parts)

module _ (total : ℕ) where
  what_is_told : (assembly : Assembly) → Tells (whole_of total assembly.parts) (if_not_whole total assembly) (told total assembly)
  what_is_told assembly = go (whole_of total assembly.parts) refl
    where
      go : (bytes : Option (List ℕ)) → whole_of total assembly.parts ≡ bytes → Tells bytes (cond (is_some bytes) None (Some assembly)) (told_with assembly bytes)
      go None is = (refl, refl)
      go (Some bytes) is = refl

  -- where an assembly is told as open, it isn't whole
  pub stays_open : (assembly : Assembly) (have : ℕ) → told total assembly ≡ Open have → if_not_whole total assembly ≡ Some assembly
  stays_open assembly have is = go (whole_of total assembly.parts) is
    where
      go : (bytes : Option (List ℕ)) → told_with assembly bytes ≡ Open have → cond (is_some bytes) None (Some assembly) ≡ Some assembly
      go None is = refl
      go (Some bytes) is = absurd cc

  pub ends_whole : (assembly : Assembly) (bytes : List ℕ) → told total assembly ≡ Whole bytes → if_not_whole total assembly ≡ None
  ends_whole assembly bytes is = go (whole_of total assembly.parts) is
    where
      go : (made : Option (List ℕ)) → told_with assembly made ≡ Whole bytes → cond (is_some made) None (Some assembly) ≡ None
      go None is = absurd cc
      go (Some bytes) is = refl

  -- a young one is open still
  young_stands : (now : ℕ) (assembly : Assembly) → is_young now assembly ≡ true → standing now (if_not_whole total assembly) ≡ if_not_whole total assembly
  young_stands now assembly young = elim (is_some (whole_of total assembly.parts)) as (λ b. standing now (cond b None (Some assembly)) ≡ cond b None (Some assembly)) [
    | true ↦ refl
    | false ↦ ap (λ b. cond b (Some assembly) None) young
  ]

-- a part leaves the moment of the opening
pub keeps_opening : (place : ℕ) (tail : List ℕ) (assembly : Assembly) → (with_part place tail assembly).opened ≡ assembly.opened
keeps_opening place tail assembly =
    elim (is_some (lookup (nat_eq place) assembly.parts)) as (λ b. (cond b assembly (record assembly { parts = assembly.parts ++ (place, tail) ∷ [] })).opened ≡ assembly.opened) [ true ↦ refl | false ↦ refl ]

still_young : (now place : ℕ) (tail : List ℕ) (assembly : Assembly) → is_young now assembly ≡ true → is_young now (with_part place tail assembly) ≡ true
still_young now place tail assembly young = ap (λ moment. nat_lt (now - moment) 10000) (keeps_opening place tail assembly) ∙ young

module _ (rows : Rows) (calls : List PartCall) (stands : FragsStand rows calls) (now : ℕ) (in_time : newest_moment calls ≤ now) (key : AssemblyKey) (place : ℕ) (tail : List ℕ) where
  abbrev call : PartCall
  call = part_of now key.orig key.seq key.total place tail

  -- the assembly of the part, with it
  abbrev gone : Assembly
  gone = with_part place tail (goes_to now (lookup (same_assembly key) rows))

  same_itself : same_assembly key key ≡ true
  same_itself = key_equiv.refl key

  -- whether the part is of what is known by this
  is_of : (q : AssemblyKey) → same_assembly key q ≡ is_part_of q.orig q.seq q.total call
  is_of q = sym (and_assoc (same_mac key.orig q.orig) (key.seq == q.seq) (key.total == q.total))

  -- what is kept is what is open still
  kept_then : (q : AssemblyKey) → standing now (lookup (same_assembly q) rows) ≡ standing now (assembly_of calls q)
  kept_then q = ap (standing now) (stands.kept q) ∙ standing_later now (newest_moment calls) in_time (assembly_of calls q)

  gone_is : gone ≡ with_part place tail (goes_to now (assembly_of calls key))
  gone_is = ap (λ o. with_part place tail (unwrap_or o (new_assembly now))) (kept_then key)

  gone_young : is_young now gone ≡ true
  gone_young = still_young now place tail (goes_to now (lookup (same_assembly key) rows)) (goes_to_young now (lookup (same_assembly key) rows))

  open_then : if_not_whole key.total gone ≡ assembly_of (call ∷ calls) key
  open_then =
      ap (if_not_whole key.total) gone_is
      ∙ sym (ap (λ b. cond b (if_not_whole key.total (with_part place tail (goes_to now (assembly_of calls key)))) (assembly_of calls key)) (sym (is_of key) ∙ same_itself))

  -- the answer is that to the part
  pub answers : (frag : Frag) → frag ≡ told key.total gone → Answers call calls frag
  answers frag is =
      subst (Answers call calls) (sym is)
      (subst (λ made. Tells made (assembly_of (call ∷ calls) key) (told key.total gone)) (ap (λ (a : Assembly). whole_of key.total a.parts) gone_is)
      (subst (λ after. Tells (whole_of key.total gone.parts) after (told key.total gone)) open_then (what_is_told key.total gone)))

  -- a part is noted by what is open then, and what is open still
  noted : (new : Rows) → ((q : AssemblyKey) → lookup (same_assembly q) new ≡ cond (same_assembly key q) (if_not_whole key.total gone) (option_filter (is_young now) (lookup (same_assembly q) rows)))
      → RiseWithin 0 (opened_moments new) now → IsDistinct same_assembly (keys_of new) → FragsStand new (call ∷ calls)
  noted new updates rise once = record {
    kept = λ q.
        updates q
        ∙ go q (same_assembly key q) refl
        ∙ ap (λ b. standing now (cond b (if_not_whole q.total (with_part place tail (goes_to now (assembly_of calls q)))) (assembly_of calls q))) (is_of q);
    ordered = rise;
    once = once;
  }
    where
      go : (q : AssemblyKey) (b : Bool) → same_assembly key q ≡ b → cond b (if_not_whole key.total gone) (option_filter (is_young now) (lookup (same_assembly q) rows))
          ≡ standing now (cond b (if_not_whole q.total (with_part place tail (goes_to now (assembly_of calls q)))) (assembly_of calls q))
      go q true is =
          sym (young_stands key.total now gone gone_young)
          ∙ ap (λ a. standing now (if_not_whole key.total a)) gone_is
          ∙ ap (λ (k : AssemblyKey). standing now (if_not_whole k.total (with_part place tail (goes_to now (assembly_of calls k))))) (key_exact key q is)
      go q false is = filtered now (lookup (same_assembly q) rows) ∙ kept_then q

  all_rise : RiseWithin 0 (opened_moments rows) now
  all_rise = to_later 0 (newest_moment calls) now (opened_moments rows) in_time stands.ordered

  -- ---- where the assembly is open still
  module _ (before after : Assembly) (found : lookup (same_assembly key) rows ≡ Some before) (young : is_young now before ≡ true) (is : after ≡ with_part place tail before) where
    gone_on : after ≡ gone
    gone_on = is ∙ ap (with_part place tail) (sym (goes_on_with now before young) ∙ sym (ap (goes_to now) found))

    -- what is told of it is the answer
    pub goes_on_answered : (frag : Frag) → frag ≡ told key.total after → Answers call calls frag
    goes_on_answered frag told_is = answers frag (told_is ∙ ap (told key.total) gone_on)

    -- the rows with what it is then, and of these what is open still
    abbrev written : Rows
    written = set_value (same_assembly key) rows after

    abbrev pub went_on : Rows
    went_on = young_rows now written

    young_after : is_young now after ≡ true
    young_after = ap (is_young now) is ∙ still_young now place tail before young

    written_rise : RiseWithin 0 (opened_moments written) now
    written_rise =
        subst (λ moments. RiseWithin 0 moments now)
        (sym (one_written opened (same_assembly key) rows before after found (ap opened is ∙ keeps_opening place tail before))) all_rise

    -- once those that aren't open any more are dropped, these are left
    pub left_then : (mid left : Rows) → mid ≡ written → ((first last : ℕ) → RiseWithin first (opened_moments mid) last → left ≡ young_rows now mid) → left ≡ went_on
    left_then mid left mid_is dropped =
        dropped 0 now (subst (λ (others : Rows). RiseWithin 0 (opened_moments others) now) (sym mid_is) written_rise)
        ∙ ap (young_rows now) mid_is

    written_once : IsDistinct same_assembly (keys_of written)
    written_once = subst (IsDistinct same_assembly) (sym (keys-set_value (same_assembly key) rows after)) stands.once

    went_on_at : (q : AssemblyKey) → lookup (same_assembly q) went_on ≡ cond (same_assembly key q) (Some after) (option_filter (is_young now) (lookup (same_assembly q) rows))
    went_on_at q =
        lookup-filter-values key_equiv (is_young now) q written written_once
        ∙ ap (option_filter (is_young now)) (lookup-set_value key_equiv (same_assembly key) (key_equiv.congr key) q after rows (ap is_some found))
        ∙ elim (same_assembly key q) as (λ b. option_filter (is_young now) (cond b (Some after) (lookup (same_assembly q) rows)) ≡ cond b (Some after) (option_filter (is_young now) (lookup (same_assembly q) rows))) [
          | true ↦ ap (λ b. cond b (Some after) None) young_after
          | false ↦ refl
        ]

    went_on_once : IsDistinct same_assembly (keys_of went_on)
    went_on_once = IsDistinct-keys_filter same_assembly (λ (row : AssemblyKey × Assembly). is_young now row.1) written written_once

    went_on_rise : RiseWithin 0 (opened_moments went_on) now
    went_on_rise = young_rise now 0 now written written_rise

    -- it stays, unless it is whole
    pub goes_on_open : (frag : Frag) (have : ℕ) → frag ≡ told key.total after → frag ≡ Open have → (new : Rows) → new ≡ went_on → FragsStand new (call ∷ calls)
    goes_on_open frag have told_is is_open_still new left =
        subst (λ (others : Rows). FragsStand others (call ∷ calls)) (sym left)
        (noted went_on
        (λ q. went_on_at q ∙ ap (λ o. cond (same_assembly key q) o (option_filter (is_young now) (lookup (same_assembly q) rows))) (sym (stays_open key.total after have (sym told_is ∙ is_open_still)) ∙ ap (if_not_whole key.total) gone_on))
        went_on_rise
        went_on_once)

    -- and then goes
    pub goes_on_whole : (frag : Frag) (bytes : List ℕ) → frag ≡ told key.total after → frag ≡ Whole bytes → (left new : Rows) → left ≡ went_on → new ≡ remove_entry (same_assembly key) left → IsDistinct same_assembly (keys_of new)
        → FragsStand new (call ∷ calls)
    goes_on_whole frag bytes told_is is_whole left new left_is removed once =
        let is_removed : new ≡ remove_entry (same_assembly key) went_on = removed ∙ ap (remove_entry (same_assembly key)) left_is in
        noted new
        (λ q.
        ap (lookup (same_assembly q)) is_removed
        ∙ lookup-remove_entry key_equiv (same_assembly key) (key_equiv.congr key) q went_on went_on_once
        ∙ ap (cond (same_assembly key q) None) (went_on_at q)
        ∙ elim (same_assembly key q) as (λ b. cond b None (cond b (Some after) (option_filter (is_young now) (lookup (same_assembly q) rows))) ≡ cond b (if_not_whole key.total gone) (option_filter (is_young now) (lookup (same_assembly q) rows))) [
          | true ↦ sym (ends_whole key.total after bytes (sym told_is ∙ is_whole)) ∙ ap (if_not_whole key.total) gone_on
          | false ↦ refl
        ])
        (subst (λ (others : Rows). RiseWithin 0 (opened_moments others) now) (sym is_removed) (one_removed opened 0 now (same_assembly key) went_on went_on_rise))
        once

  -- ---- where none is open still
  module _ (after : Assembly) (none : is_kept_young now (lookup (same_assembly key) rows) ≡ false) (is : after ≡ with_part place tail (new_assembly now)) where
    begun : after ≡ gone
    begun = is ∙ ap (with_part place tail) (sym (goes_anew now (lookup (same_assembly key) rows) none))

    pub begins_answered : (frag : Frag) → frag ≡ told key.total after → Answers call calls frag
    begins_answered frag told_is = answers frag (told_is ∙ ap (told key.total) begun)

    abbrev pub still_open : Rows
    still_open = young_rows now rows

    still_open_at : (q : AssemblyKey) → lookup (same_assembly q) still_open ≡ option_filter (is_young now) (lookup (same_assembly q) rows)
    still_open_at q = lookup-filter-values key_equiv (is_young now) q rows stands.once

    -- once those that aren't open any more are dropped, these are left
    pub left_before : (mid left : Rows) → mid ≡ rows → ((first last : ℕ) → RiseWithin first (opened_moments mid) last → left ≡ young_rows now mid) → left ≡ still_open
    left_before mid left mid_is dropped =
        dropped 0 now (subst (λ (others : Rows). RiseWithin 0 (opened_moments others) now) (sym mid_is) all_rise)
        ∙ ap (young_rows now) mid_is

    -- of what the part is of none is
    none_still : (q : AssemblyKey) → same_assembly key q ≡ true → lookup (same_assembly q) still_open ≡ None
    none_still q same =
        still_open_at q
        ∙ ap (λ (k : AssemblyKey). option_filter (is_young now) (lookup (same_assembly k) rows)) (sym (key_exact key q same))
        ∙ gone_then (lookup (same_assembly key) rows) none
      where
        gone_then : (kept : Option Assembly) → is_kept_young now kept ≡ false → option_filter (is_young now) kept ≡ None
        gone_then None aged = refl
        gone_then (Some assembly) aged = ap (λ b. cond b (Some assembly) None) aged

    still_rise : RiseWithin 0 (opened_moments still_open) now
    still_rise = young_rise now 0 now rows all_rise

    -- it stays behind the others, unless it is whole
    pub begins_open : (frag : Frag) (have : ℕ) → frag ≡ told key.total after → frag ≡ Open have → {S : Type 0} (left : IndexMap AssemblyKey Assembly S) (new : Rows) → left.entries ≡ still_open
        → new ≡ insert_entry same_assembly left.entries key after
        → ((q : AssemblyKey) → lookup (same_assembly q) new ≡ cond (same_assembly key q) (Some after) (lookup (same_assembly q) left.entries)) → IsDistinct same_assembly (keys_of new)
        → FragsStand new (call ∷ calls)
    begins_open frag have told_is is_open_still left new left_is pushed updates once =
        let absent : get same_assembly left key ≡ None = ap (lookup (same_assembly key)) left_is ∙ none_still key same_itself in
        let behind : new ≡ still_open ++ (key, after) ∷ [] = pushed ∙ insert_entry-new same_assembly left key after absent ∙ ap (λ (others : Rows). others ++ (key, after) ∷ []) left_is in
        noted new
        (λ q.
        updates q
        ∙ ap₂ (cond (same_assembly key q)) (sym (stays_open key.total after have (sym told_is ∙ is_open_still)) ∙ ap (if_not_whole key.total) begun) (ap (lookup (same_assembly q)) left_is ∙ still_open_at q))
        (subst (λ (others : Rows). RiseWithin 0 (opened_moments others) now) (sym behind)
        (one_opened opened 0 now still_open (key, after) (ap opened is ∙ keeps_opening place tail (new_assembly now)) still_rise))
        once

    -- and then isn't kept
    pub begins_whole : (frag : Frag) (bytes : List ℕ) → frag ≡ told key.total after → frag ≡ Whole bytes → (new : Rows) → new ≡ still_open → FragsStand new (call ∷ calls)
    begins_whole frag bytes told_is is_whole new left =
        subst (λ (others : Rows). FragsStand others (call ∷ calls)) (sym left)
        (noted still_open
        (λ q. go q (same_assembly key q) refl)
        still_rise
        (IsDistinct-keys_filter same_assembly (λ (row : AssemblyKey × Assembly). is_young now row.1) rows stands.once))
      where
        go : (q : AssemblyKey) (b : Bool) → same_assembly key q ≡ b → lookup (same_assembly q) still_open ≡ cond b (if_not_whole key.total gone) (option_filter (is_young now) (lookup (same_assembly q) rows))
        go q true same = none_still q same ∙ sym (ends_whole key.total after bytes (sym told_is ∙ is_whole)) ∙ ap (if_not_whole key.total) begun
        go q false other = still_open_at q
