-- What is said of bytes that are decoded: the lines that are printed. `Rows` says what `lines` are.
use Rattle.std.specs.Prelude.{◌≡◌, ℕ, List, Ok}
use Rattle.std.specs.Result.{result_map_both}
use Rattle.hex.specs.Hex.{decode_of}
use Rattle.mesh_model.specs.Text.Decode.{decode_text}
use Rattle.mesh_rows.specs.Rows.{lines}

-- these hex digits are bytes of which `decode` prints these lines
abbrev pub Prints : List ℕ → List (List ℕ) → Type 0
Prints digits printed =
    result_map_both decode_text (λ error. error) (decode_of digits) ≡ Ok (lines printed)
