-- Changes and whole tables that are taken lead to a commit, while no two commits are an alias.
use Rattle.std.proofs.Common.{◌≡◌, ℕ, ◌<◌, List, [], map, Some, Result, Ok, sym, ap, ◌∙◌, arith}
use Rattle.mesh_base.specs.declared.client.Entry.{Entry}
use Rattle.mesh_model.specs.declared.table_change.Change.{Change}
use Rattle.mesh_model.specs.Tables.Changes.{addition}
use Rattle.mesh_model.specs.Tables.Strict.{apply_strictly}
use Rattle.mesh_model.specs.Tables.Sums.{checksums}
use Rattle.mesh_model.specs.Tables.Versions.{Version, next_byte}
use Rattle.mesh_laws.specs.HeldLaws.{AreCommits}
use Rattle.mesh_laws.specs.Machine.Agreement.{LeadTo}
use Rattle.mesh_laws.specs.Machine.World.{IsCommit, commit_numbered}
use Rattle.mesh_laws.proofs.TableChanges.{additions_make_table, changeset_leads}
use Rattle.mesh_laws.proofs.TableSums.{had_equal_checksums}

-- the byte after tells the byte
byte_before : (a b : ℕ) → a < 256 → b < 256 → next_byte a ≡ next_byte b → a ≡ b
byte_before a b p q e = omega arith

-- changes that lead from a held commit to the checksums of the commit to which they lead, lead to it
pub led_to_commit : (cs : List Version) → AreCommits cs → (n : ℕ) (c h : Version) (changes : List Change) (table : List Entry) → commit_numbered n cs ≡ Some c → LeadTo cs n c changes → IsCommit cs h → c.byte ≡ next_byte h.byte → apply_strictly h.table changes ≡ Ok table → checksums table ≡ checksums c.table → c.table ≡ table
led_to_commit cs are n c h changes table is l held next strict after =
    let leads : apply_strictly l.before.table changes ≡ Ok c.table =
    ap (apply_strictly l.before.table) l.changes_are ∙ changeset_leads l.before.table c.table (are.ordered l.before (l.earlier, l.was_commit)) (are.ordered c (n, is)) in
    let earlier : checksums h.table ≡ checksums l.before.table = had_equal_checksums h.table l.before.table table c.table changes strict leads after in
    let bytes : h.byte ≡ l.before.byte = byte_before h.byte l.before.byte (are.bytes h held) (are.bytes l.before (l.earlier, l.was_commit)) (sym next ∙ l.byte_is) in
    let base : h.table ≡ l.before.table = are.no_alias h l.before held (l.earlier, l.was_commit) bytes earlier in
    let ok : ◌≡◌ {A = Result (List Entry) Change} (Ok table) (Ok c.table) = sym strict ∙ ap (λ x. apply_strictly x changes) base ∙ leads in
    cc

-- a commit in full makes the commit
pub made_of_commit : (cs : List Version) → AreCommits cs → (c : Version) (table : List Entry) → IsCommit cs c → apply_strictly [] (map addition c.table) ≡ Ok table → c.table ≡ table
made_of_commit cs are c table is strict =
    let ok : ◌≡◌ {A = Result (List Entry) Change} (Ok table) (Ok c.table) = sym strict ∙ additions_make_table c.table (are.ordered c is) in
    cc
