-- Named under a signature by `unfolding tables_on_literals`, it lets sums and parts compute on entries that are written out.
use Rattle.std.specs.Prelude.{⊤}
use lib.Utf8.{encode}
use Rattle.mesh_model.specs.Tables.Checksum.{crc32c}
use Rattle.mesh_model.specs.Tables.Pieces.{piece_count, piece_size}
use Rattle.mesh_model.specs.Tables.Sums.{entry_sum}

unfoldable pub tables_on_literals : ⊤
unfolding encode crc32c entry_sum piece_count piece_size
tables_on_literals = tt
