-- How what is kept of originators stands for all that came for them. The main word is
-- `GlobalsStand`.
use Rattle.std.specs.Prelude.{◌≡◌, ℕ, List, Option, Some, None, IsTrue}
use Rattle.std.specs.Borrow.{Bor}
use Rattle.std.specs.List.Sorted.{IsStrictlySortedBy}
use Rattle.std.specs.Map.{keys_of, lookup}
use Rattle.mesh_base.specs.declared.address.Mac.{Mac}
use Rattle.mesh_model.specs.Routes.Addresses.{mac_order, same_mac}
use Rattle.mesh_model.specs.Tables.Known.{TableCalls, agrees, known_by, originators_by, stamp_of}
use Rattle.mesh_model.specs.Tables.Sums.{sums_of}
use Rattle.mesh_model.specs.Tables.Versions.{Stamp, Version}
use Rattle.mesh_laws.specs.HeldLaws.{AreOfCommits}
use Rattle.tt_global.specs.Kept.{gathered_in, held_in, told_in}
use Rattle.tt_global.specs.declared.known.KnownTable.{KnownTable}
use Rattle.tt_table.specs.Table.{TableView}

-- what is kept, by originator
abbrev pub Kept : Type 0
Kept = List (Mac × KnownTable)

-- what is kept is what came for each originator: what was told last, whatever frame told it, what is
-- held, and the parts that are gathered; those of which something was told stand in the order of
-- their addresses
pub record GlobalsStand (kept : Kept) (calls : TableCalls) : Type 0 where
  pub told : (orig : Mac) →
      told_in (lookup (same_mac orig) kept) ≡ stamp_of (known_by calls orig)
  pub held : (orig : Mac) → held_in (lookup (same_mac orig) kept) ≡ (known_by calls orig).held
  pub gathered : (orig : Mac) →
      gathered_in (lookup (same_mac orig) kept) ≡ (known_by calls orig).gathered
  pub originators : keys_of kept ≡ originators_by calls
  pub rise : IsStrictlySortedBy mac_order (keys_of kept)

-- what was told of an originator and what is held of it are of these commits, and where they agree,
-- what is held is the commit that was told
abbrev pub KeepsCommits : List Version → Mac → Kept → Type 0
KeepsCommits made orig kept = AreOfCommits made (told_in (lookup (same_mac orig) kept))
    (held_in (lookup (same_mac orig) kept))

-- what is held of an originator has the byte and the sums that were told
abbrev pub KeepsAgreed : Mac → Kept → Type 0
KeepsAgreed orig kept = IsTrue (agrees (told_in (lookup (same_mac orig) kept))
    (held_in (lookup (same_mac orig) kept)))

-- what is held has the byte that was told, and its sums are the told ones, VLAN by VLAN: more than
-- agreement, since an unnamed VLAN isn't one with the sum 0
abbrev pub IsSettled : Option Stamp → Option Version → Type 0
IsSettled None held = ⊥
IsSettled (Some told) None = ⊥
IsSettled (Some told) (Some held) = (held.byte ≡ told.byte) × (sums_of held.table ≡ told.sums)

-- a table that is lent with its byte, as a version
abbrev pub asked_version : ℕ × Bor TableView → Version
asked_version held = record { byte = held.0; table = held.1.now.entries }
