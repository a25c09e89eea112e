-- A version of an originator's table: the table under the byte that goes with it. An announcement
-- and an answer name a version by its stamp, the byte and the sums. Bytes follow one another, and 0
-- follows 255. The main words are `Version` and `next_byte`.
use Rattle.std.specs.Prelude.{ℕ, ◌+◌, ◌%◌, List}
use Rattle.mesh_base.specs.declared.client.Entry.{Entry}
use Rattle.mesh_model.specs.Packets.Bodies.{VlanSum}

-- a table under a byte: what an originator commits, and what a node holds of it
pub record Version : Type 0 where
  pub byte : ℕ
  pub table : List Entry

-- what is told of a version
pub record Stamp : Type 0 where
  pub byte : ℕ
  pub sums : List VlanSum

-- the byte after a byte
abbrev pub next_byte : ℕ → ℕ
next_byte byte = (byte + 1) % 256
