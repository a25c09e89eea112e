-- The calls on a node's marks, requests and advertisements, newest first. What is remembered is
-- asked of the whole list of them. The main word is `Call`.
use Rattle.std.specs.Prelude.{ℕ, List, Option}
use Rattle.mesh_base.specs.declared.address.Mac.{Mac}
use Rattle.mesh_base.specs.declared.client.Key.{Key}

-- a client went to a node, which had told a byte or none by then; each mark of a node ends whose
-- byte is another; a client's mark ends; a client was advertised; an originator was asked for its
-- table; an originator's life began anew
pub data Call : Type 0 where
  Marked : (now : ℕ) → (key : Key) → (target : Mac) → (told : Option ℕ) → Call
  Released : (target : Mac) → (byte : ℕ) → Call
  Unmarked : (key : Key) → Call
  Advised : (now : ℕ) → (key : Key) → Call
  Asked : (now : ℕ) → (orig : Mac) → Call
  Forgotten : (orig : Mac) → Call

-- the calls that were made and not refused, newest first
abbrev pub Calls : Type 0
Calls = List Call
