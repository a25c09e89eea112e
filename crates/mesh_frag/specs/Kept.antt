-- What is kept of an open assembly, as the definitions see it. No clause of a public call cites
-- this file.
use Rattle.std.specs.Prelude.{◌<◌, ◌^◌, ◌-◌, ◌≤◌, Bool, false, ℕ, nat_eq, nat_lt, length, List, ◌∷◌, Option, None, Some, Result, IfOk, IsSome, OnOk}
use Rattle.std.specs.Map.{lookup}
use Rattle.mesh_model.specs.Fragments.Assembly.{Assembly, PartCall, assembly_age, part_of, whole_of}
use Rattle.mesh_frag.specs.Frags.{Answers, FragsStand, Rows, newest_moment}
use Rattle.mesh_frag.specs.declared.frag.Frag.{Frag}
use Rattle.mesh_frag.specs.declared.frag.Frag.TheVariants.{Open, Whole}
use Rattle.mesh_frag.specs.declared.frags.AssemblyKey.{AssemblyKey}
use Rattle.mesh_frag.specs.declared.frags.Piece.{Piece}

-- a part of an assembly
abbrev pub call_of : ℕ → AssemblyKey → Piece → PartCall
call_of now key piece = part_of now key.orig key.seq key.total piece.place piece.tail.now

-- places have one byte
abbrev pub ArePlaces : List (ℕ × List ℕ) → Type 0
ArePlaces parts = (place : ℕ) → IsSome (lookup (nat_eq place) parts) → place < 2 ^ 8

-- whether an assembly is open still at a moment
abbrev pub is_young : ℕ → Assembly → Bool
is_young now assembly = nat_lt (now - assembly.opened) assembly_age

-- whether what is kept, if anything, is open still
abbrev pub is_kept_young : ℕ → Option Assembly → Bool
is_kept_young now None = false
is_kept_young now (Some assembly) = is_young now assembly

-- what is told of an assembly with these bytes where it is whole
abbrev pub told_with : Assembly → Option (List ℕ) → Frag
told_with assembly None = Open (length assembly.parts)
told_with assembly (Some bytes) = Whole bytes

-- what is told of an assembly of a packet of this length
abbrev pub told : ℕ → Assembly → Frag
told total assembly = told_with assembly (whole_of total assembly.parts)

-- what is kept once a part was taken
abbrev pub Notes : {E : Type 0} → PartCall → Rows → Rows → Result Frag E → Type 0
Notes call old new result = (calls : List PartCall) → FragsStand old calls →
    newest_moment calls ≤ call.moment → OnOk result (FragsStand new (call ∷ calls))

-- and what it is answered
abbrev pub IsAnswered : {E : Type 0} → PartCall → Rows → Result Frag E → Type 0
IsAnswered call old result = (calls : List PartCall) → FragsStand old calls →
    newest_moment calls ≤ call.moment → IfOk result (Answers call calls)
