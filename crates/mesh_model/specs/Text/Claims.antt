-- The printed claims of a gateway (`show NODE cl`): a line `cl NODE lan=L count=C`, with `lan=-`
-- for a node that is no gateway, and a line `k MAC VID holder=MAC age=AGE` for each claim that
-- stands. The main word is `claim_table_text`.
use Rattle.std.specs.Prelude.{ℕ, List, [], ◌∷◌, ◌++◌, length, flat_map, codes, Option, Some, None}
use Rattle.mesh_model.specs.declared.claim.ClaimRow.{ClaimRow}
use Rattle.mesh_model.specs.Text.PacketLines.{line_of, named_number, named_address}
use Rattle.mesh_model.specs.Text.Tables.{vid_text}

-- a node's name, that of its LAN, and the claims that stand
pub record ClaimTable : Type 0 where
  pub name : List ℕ
  pub lan : Option (List ℕ)
  pub rows : List ClaimRow

-- a name, or `-` for none
abbrev pub name_or_dash : Option (List ℕ) → List ℕ
name_or_dash None = codes "-"
name_or_dash (Some name) = name

-- the line of a claim
unfoldable pub claim_line : ClaimRow → List ℕ
claim_line row = line_of
    (named_address (codes "k ") row.key.mac ∷ codes " " ∷ vid_text row.key.vid
    ∷ named_address (codes " holder=") row.holder ∷ named_number (codes " age=") row.age ∷ [])

-- the first line
unfoldable pub claim_header : List ℕ → Option (List ℕ) → ℕ → List ℕ
claim_header name lan count = line_of
    (codes "cl " ∷ name ∷ codes " lan=" ∷ name_or_dash lan ∷ named_number (codes " count=") count
    ∷ [])

-- the table as it is printed
abbrev pub claim_table_text : ClaimTable → List ℕ
claim_table_text table = claim_header table.name table.lan (length table.rows)
    ++ flat_map claim_line table.rows
