-- Requests for an originator's table and the answers to them. The originator answers from its last
-- commit: with the changes of that commit, where the request asks for changes under its byte and
-- there are some that an announcement may carry; else with the whole table. A node on the way
-- answers with the table that it holds, whole, where the table is under the asked byte and has the
-- asked sums. A whole table of more than 1,024 entries goes in parts, which are its pieces. The main
-- words are `own_reply`, `other_answer` and `parts_of_reply`.
use Rattle.std.specs.Prelude.{ℕ, ◌==◌, ◌&&◌, nat_lt, Bool, true, false, not, List, [], ◌∷◌, length, map, Option, Some, None, Result, Ok, Err, if◌then◌else◌}
use Rattle.mesh_base.specs.declared.client.Vid.{Vid}
use Rattle.mesh_model.specs.declared.table_change.Change.{Change}
use Rattle.mesh_model.specs.declared.table_outcome.Difference.{Difference}
use Rattle.mesh_model.specs.Tables.Changes.{addition}
use Rattle.mesh_model.specs.Tables.Differences.{first_difference}
use Rattle.mesh_model.specs.Tables.Pieces.{piece_at, piece_count, piece_size, places}
use Rattle.mesh_model.specs.Tables.Sums.{sums_of}
use Rattle.mesh_model.specs.Tables.Versions.{Stamp, Version}

-- an answer: whether it has the whole table, the byte and the sums of the table to which it leads,
-- and its records
pub record Reply : Type 0 where
  pub full : Bool
  pub stamp : Stamp
  pub records : List Change

-- why there is none: the held byte, where something is held, the asked one, and the least VLAN at
-- which sums differ, where the bytes don't
pub record NotHeld : Type 0 where
  pub held : Option ℕ
  pub asked : ℕ
  pub vid : Option Vid

-- the whole table of a version, as additions
abbrev pub full_reply : Version → Reply
full_reply version = record {
  full = true;
  stamp = record { byte = version.byte; sums = sums_of version.table };
  records = map addition version.table;
}

-- the changes that led to a version
abbrev pub changes_reply : Version → List Change → Reply
changes_reply version changes = record {
  full = false;
  stamp = record { byte = version.byte; sums = sums_of version.table };
  records = changes;
}

-- the answer of an originator to a request, which asks for the whole table or for changes, under a
-- byte: from its last commit, with the changes that are told of it, where some are
abbrev pub own_reply : Bool → ℕ → Version → Option (List Change) → Reply
own_reply full byte last None = full_reply last
own_reply full byte last (Some changes) =
    if not full && (byte == last.byte) then changes_reply last changes else full_reply last

-- what is held, unless its sums differ from the asked ones
abbrev pub unless_asked_differs : Option Difference → Version → Stamp → Result Reply NotHeld
unless_asked_differs None held asked = Ok (full_reply held)
unless_asked_differs (Some difference) held asked =
    Err (record { held = Some held.byte; asked = asked.byte; vid = Some difference.vid })

-- what a node answers by what it holds of the originator, or why it doesn't
abbrev pub other_answer : Option Version → Stamp → Result Reply NotHeld
other_answer None asked = Err (record { held = None; asked = asked.byte; vid = None })
other_answer (Some held) asked =
    if held.byte == asked.byte then
    unless_asked_differs (first_difference (sums_of held.table) asked.sums) held asked
    else Err (record { held = Some held.byte; asked = asked.byte; vid = None })

-- the answer, where there is one
abbrev pub reply_in : Result Reply NotHeld → Option Reply
reply_in (Ok reply) = Some reply
reply_in (Err not_held) = None

-- the answer of a node that holds a version to a request under a byte and sums, where it has one
abbrev pub held_reply : Stamp → Option Version → Option Reply
held_reply asked held = reply_in (other_answer held asked)

-- ---- in parts
-- the number of a part, and how many there are
pub record PartPlace : Type 0 where
  pub number : ℕ
  pub count : ℕ

-- what one packet brings of an answer: all of it, or the part at a place, with the records of that
pub record ReplyPart : Type 0 where
  pub reply : Reply
  pub place : Option PartPlace

-- an answer that goes whole
abbrev pub whole_part : Reply → ReplyPart
whole_part reply = record { reply = reply; place = None }

-- the part of an answer with a number
abbrev pub numbered_part : Reply → ℕ → ReplyPart
numbered_part reply number = record {
  reply = record reply { records = piece_at number reply.records };
  place = Some (record { number = number; count = piece_count reply.records });
}

-- what an answer goes as, first to last: its parts, where it is a whole table of more than 1,024
-- entries
abbrev pub parts_of_reply : Reply → List ReplyPart
parts_of_reply reply = if reply.full && nat_lt piece_size (length reply.records)
    then map (numbered_part reply) (places (piece_count reply.records))
    else whole_part reply ∷ []
