-- What the text of a run says of the clients of others. Where a whole line is that of an originator
-- in agreement, `t ORIG held=B told=B state=ok entries=N`, and no line before it tells of an alias
-- of that originator, its bytes and its number are those of the commit that the originator made for
-- the message that the shown node accepted last, and the lines behind it go on with those of the
-- commit's entries, as far as the text goes. The main word is `OkLinesAreCommitted`.
use Rattle.std.specs.Prelude.{◌≡◌, ◌⊎◌, ◌<◌, ◌^◌, ℕ, true, List, ◌∷◌, ◌++◌, length, flat_map, map, Some}
use Rattle.std.specs.List.{AllByRecursion}
use Rattle.mesh_base.specs.declared.address.Mac.{Mac}
use Rattle.mesh_base.specs.declared.event.Event.TheVariants.{Alias}
use Rattle.mesh_base.specs.Names.{NamesGiven}
use Rattle.mesh_model.specs.declared.frame_choice.FrameChoice.{FrameChoice}
use Rattle.mesh_model.specs.Net.Next.{Has}
use Rattle.mesh_model.specs.Run.PlainRun.{after_lines, start}
use Rattle.mesh_model.specs.Run.State.{Printed, names_of}
use Rattle.mesh_model.specs.Scenario.Lines.{complete_lines}
use Rattle.mesh_model.specs.Text.Events.{event_line}
use Rattle.mesh_model.specs.Text.GlobalTables.{GlobalPart, GlobalTable, entry_line, global_line}
use Rattle.mesh_tie.specs.ShownTables.{WasCommitted}
use Rattle.mesh_lines.specs.ItemLines.{global_first, lines_printed, part_lines}

-- numbers that are bytes
abbrev pub AreBytes : List ℕ → Type 0
AreBytes = AllByRecursion (λ byte. byte < 2 ^ 8)

-- the names that nodes and LANs have behind these lines
abbrev pub names_behind : FrameChoice → List (List ℕ) → NamesGiven
names_behind choice lines = names_of (after_lines (start choice) lines).state.mesh

-- no line tells of an alias of an originator, by the name that it has among these
abbrev pub TellNoAlias : NamesGiven → Mac → List (List ℕ) → Type 0
TellNoAlias names orig lines = (number earlier : ℕ) →
    Has lines (event_line names (Alias orig number earlier)) → ⊥

-- the line of an originator in agreement, with the bytes that are held and told, and how many
-- entries are held
abbrev pub ok_line : Mac → ℕ → ℕ → ℕ → List ℕ
ok_line orig held told entries =
    global_line (record { orig = orig; held = Some held; told = told; ok = true }) entries

-- lines go on with others, as far as they come
abbrev pub GoOnWith : List (List ℕ) → List (List ℕ) → Type 0
GoOnWith lines wanted = ((more : List (List ℕ)) × (lines ≡ wanted ++ more))
    ⊎ ((more : List (List ℕ)) × (wanted ≡ lines ++ more))

-- the line of an originator between others is that of a commit: it stands in a table that was
-- printed as that of a node right behind some of the lines, and its bytes, its number and the lines
-- that follow are those of the commit that the node was told last
pub record ShowsCommit (choice : FrameChoice) (lines before : List (List ℕ)) (orig : Mac)
    (held told entries : ℕ) (after : List (List ℕ)) : Type 0 where
  pub earlier : List Printed
  pub table : GlobalTable
  pub front : List GlobalPart
  pub part : GlobalPart
  pub back : List GlobalPart
  pub parts_are : table.parts ≡ front ++ part ∷ back
  pub before_is : before
      ≡ lines_printed choice earlier ++ global_first table ∷ flat_map part_lines front
  pub committed : WasCommitted choice lines earlier table part
  pub orig_is : part.row.orig ≡ orig
  pub held_is : part.row.held ≡ Some held
  pub told_is : part.row.told ≡ told
  pub count : length part.entries ≡ entries
  pub entries_follow : GoOnWith after (map entry_line part.entries)

-- each whole line of an originator in agreement, in a text that the run of some lines prints
abbrev pub OkLinesAreCommitted : FrameChoice → List (List ℕ) → List ℕ → Type 0
OkLinesAreCommitted choice lines text =
    (before after : List (List ℕ)) (orig : Mac) (held told entries : ℕ) →
    complete_lines text ≡ before ++ ok_line orig held told entries ∷ after →
    AreBytes orig.0 → held < 2 ^ 8 → told < 2 ^ 8 → entries < 2 ^ 64 →
    TellNoAlias (names_behind choice lines) orig before →
    ShowsCommit choice lines before orig held told entries after
