-- Lines tell their fields: two lines of one form that are the same have the same fields, for
-- addresses of bytes, numbers of at most 64 bits, wire numbers of two bytes, and names that are
-- words. Of an entry's flags its line tells the two that are printed. The main words are
-- `OkLinesTellFields`, `EntryLinesTellFields`, `AliasLinesTellFields` and `FrameLinesTellFields`.
use Rattle.std.specs.Prelude.{◌≡◌, ◌<◌, ◌^◌, ℕ, List}
use Rattle.mesh_base.specs.declared.address.Mac.{Mac}
use Rattle.mesh_base.specs.declared.client.Entry.{Entry}
use Rattle.mesh_base.specs.declared.event.Event.TheVariants.{Alias}
use Rattle.mesh_base.specs.Names.{NamesGiven}
use Rattle.mesh_model.specs.Text.Events.{event_line, name_text}
use Rattle.mesh_model.specs.Text.GlobalTables.{entry_line}
use Rattle.mesh_model.specs.Text.Tables.{flags_text}
use Rattle.mesh_lines.specs.FrameText.{table_frame_line}
use Rattle.mesh_lines.specs.LineWords.{AreNamed, IsWord}
use Rattle.mesh_lines.specs.TableText.{AreBytes, ok_line}

-- the fields of an originator's line in agreement are the same
pub record AreSameOk (orig other : Mac) (held told entries h t n : ℕ) : Type 0 where
  pub orig_is : orig ≡ other
  pub held_is : held ≡ h
  pub told_is : told ≡ t
  pub entries_are : entries ≡ n

-- so it is where two such lines are the same
abbrev pub OkLinesTellFields : Type 0
OkLinesTellFields = (orig other : Mac) (held told entries h t n : ℕ) → AreBytes orig.0 →
    held < 2 ^ 64 → told < 2 ^ 64 → entries < 2 ^ 64 → h < 2 ^ 64 → t < 2 ^ 64 → n < 2 ^ 64 →
    ok_line orig held told entries ≡ ok_line other h t n →
    AreSameOk orig other held told entries h t n

-- the fields of an entry's line are the same
pub record AreSameEntry (one other : Entry) : Type 0 where
  pub mac : one.key.mac ≡ other.key.mac
  pub vid : one.key.vid ≡ other.key.vid
  pub flags : flags_text one.flags ≡ flags_text other.flags

-- so it is where two such lines are the same, of wire numbers of two bytes
abbrev pub EntryLinesTellFields : Type 0
EntryLinesTellFields = (one other : Entry) → AreBytes one.key.mac.0 →
    one.key.vid.0 < 2 ^ 16 → other.key.vid.0 < 2 ^ 16 → entry_line one ≡ entry_line other →
    AreSameEntry one other

-- the fields of an alias' line are the same
pub record AreSameAlias (names others : NamesGiven) (orig other : Mac)
    (number earlier n e : ℕ) : Type 0 where
  pub name : name_text names orig ≡ name_text others other
  pub number_is : number ≡ n
  pub earlier_is : earlier ≡ e

-- so it is where two such lines are the same, by names that are words
abbrev pub AliasLinesTellFields : Type 0
AliasLinesTellFields = (names others : NamesGiven) (orig other : Mac)
    (number earlier n e : ℕ) → AreNamed names → AreNamed others →
    number < 2 ^ 64 → earlier < 2 ^ 64 → n < 2 ^ 64 → e < 2 ^ 64 →
    event_line names (Alias orig number earlier) ≡ event_line others (Alias other n e) →
    AreSameAlias names others orig other number earlier n e

-- the fields of the line of a frame by table are the same
pub record AreSameFrame (number moment n m : ℕ) (from to bytes a b bs : List ℕ) : Type 0 where
  pub number_is : number ≡ n
  pub moment_is : moment ≡ m
  pub from_is : from ≡ a
  pub to_is : to ≡ b
  pub bytes_are : bytes ≡ bs

-- so it is where two such lines are the same, of ends that are words
abbrev pub FrameLinesTellFields : Type 0
FrameLinesTellFields = (number moment n m : ℕ) (from to bytes a b bs : List ℕ) →
    number < 2 ^ 64 → moment < 2 ^ 64 → n < 2 ^ 64 → m < 2 ^ 64 →
    IsWord from → IsWord to → IsWord a → IsWord b → AreBytes bytes →
    table_frame_line number moment from to bytes ≡ table_frame_line n m a b bs →
    AreSameFrame number moment n m from to bytes a b bs
