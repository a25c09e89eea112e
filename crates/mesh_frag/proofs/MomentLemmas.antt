-- Moments that never fall, and which assemblies are open still.
use Rattle.std.proofs.Common.{◌≡◌, ◌≤◌, ◌-◌, ℕ, Bool, true, false, cond, filter, slice_get, IfSome, Option, None, Some, unwrap_or, refl, sym, ap, arith}
use Rattle.std.proofs.lemmas.Bool.{lt-ltb, le-ltb, ltb-true, ltb-false}
use Rattle.std.proofs.lemmas.Map.Entries.{option_filter}
use Rattle.mesh_model.specs.Fragments.Assembly.{Assembly, assembly_age, goes_to, new_assembly, standing}
use Rattle.mesh_laws.specs.Rising.{RiseWithin}
use Rattle.mesh_laws.proofs.RisingMoments.{first_open, open_rise}
use Rattle.mesh_frag.specs.Frags.{Rows, opened_moments}
use Rattle.mesh_frag.specs.Kept.{is_kept_young, is_young}
use Rattle.mesh_frag.specs.declared.frags.AssemblyKey.{AssemblyKey}

-- the moment at which an assembly was opened
abbrev pub opened : Assembly → ℕ
opened assembly = assembly.opened

-- ---- rows
-- the rows of what is open still
abbrev pub young_rows : ℕ → Rows → Rows
young_rows now rows = filter (λ (row : AssemblyKey × Assembly). is_young now row.1) rows

module _ (now : ℕ) where
  -- what was opened no earlier than what is open still is open still
  as_young : (one other : Assembly) → is_young now one ≡ true → one.opened ≤ other.opened → is_young now other ≡ true
  as_young one other is le = let young = ltb-true (now - one.opened) assembly_age is in lt-ltb (now - other.opened) assembly_age (omega (arith, young, le))

  -- what is open still rises as all do
  pub young_rise : (first last : ℕ) (rows : Rows) → RiseWithin first (opened_moments rows) last → RiseWithin first (opened_moments (young_rows now rows)) last
  young_rise first last rows rise = open_rise opened (is_young now) as_young first last rows rise

  -- where the first row is open still, all are
  pub first_young : (first last : ℕ) (rows : Rows) → IfSome (slice_get rows 0) (λ (row : AssemblyKey × Assembly). is_young now row.1 ≡ true) → RiseWithin first (opened_moments rows) last → young_rows now rows ≡ rows
  first_young first last rows is rise = first_open opened (is_young now) as_young first last rows is rise

  -- ---- assemblies
  -- what is open still of what was open still at an earlier moment is what is open still
  pub standing_later : (before : ℕ) → before ≤ now → (kept : Option Assembly) → standing now (standing before kept) ≡ standing now kept
  standing_later before le None = refl
  standing_later before le (Some assembly) = go (is_young before assembly) refl
    where
      go : (b : Bool) → is_young before assembly ≡ b → standing now (cond b (Some assembly) None) ≡ standing now (Some assembly)
      go true is = refl
      go false is =
          let aged = ltb-false (before - assembly.opened) assembly_age is in
          sym (ap (λ b. cond b (Some assembly) None) (le-ltb (now - assembly.opened) assembly_age (omega (arith, aged, le))))

  -- to filter by it is the same
  pub filtered : (kept : Option Assembly) → option_filter (is_young now) kept ≡ standing now kept
  filtered None = refl
  filtered (Some assembly) = refl

  -- a part goes to what is open still
  pub goes_on_with : (assembly : Assembly) → is_young now assembly ≡ true → goes_to now (Some assembly) ≡ assembly
  goes_on_with assembly young = ap (λ b. unwrap_or (cond b (Some assembly) None) (new_assembly now)) young

  -- or else to a new one
  pub goes_anew : (kept : Option Assembly) → is_kept_young now kept ≡ false → goes_to now kept ≡ new_assembly now
  goes_anew None aged = refl
  goes_anew (Some assembly) aged = ap (λ b. unwrap_or (cond b (Some assembly) None) (new_assembly now)) aged

  young_when_new : is_young now (new_assembly now) ≡ true
  young_when_new = lt-ltb (now - now) assembly_age (omega arith)

  -- which is open still
  pub goes_to_young : (kept : Option Assembly) → is_young now (goes_to now kept) ≡ true
  goes_to_young None = young_when_new
  goes_to_young (Some assembly) = go (is_young now assembly) refl
    where
      go : (b : Bool) → is_young now assembly ≡ b → is_young now (unwrap_or (cond b (Some assembly) None) (new_assembly now)) ≡ true
      go true young = young
      go false aged = young_when_new
