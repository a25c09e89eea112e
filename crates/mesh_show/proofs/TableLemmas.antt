-- Tables in a state, and a table that is appended by way of a text of its own.
use Rattle.std.proofs.Common.{◌≡◌, ℕ, List, [], ◌++◌, sym, ap, ◌∙◌}
use Rattle.mesh_base.specs.Names.{NamesGiven}
use Rattle.mesh_model.specs.declared.line_form.Algorithm.{Algorithm}
use Rattle.mesh_model.specs.declared.line_form.Table.{Table}
use Rattle.mesh_model.specs.declared.line_form.Table.TheVariants.{Originators, Neighbors, Locals, Globals, Claims, Pictures}
use Rattle.mesh_model.specs.Net.Mesh.{NodeLog}
use Rattle.mesh_model.specs.Run.Shown.{claim_table, global_table, link_table, local_table, orig_table, picture_table, shown}
use Rattle.mesh_model.specs.Run.State.{State, printed_text}
use Rattle.mesh_model.specs.Text.Claims.{claim_table_text}
use Rattle.mesh_model.specs.Text.GlobalTables.{global_table_text}
use Rattle.mesh_model.specs.Text.Services.{picture_table_text}
use Rattle.mesh_model.specs.Text.Tables.{link_table_text, orig_table_text, table_text}
use Rattle.mesh_show.specs.Shown.{AppendsTable, IsSeenAt}

-- ---- tables of a state that is seen so

pub locals_shown : (algorithm : Algorithm) (names : NamesGiven) (now : ℕ) (state : State) (row : NodeLog) (old new : List ℕ) → IsSeenAt algorithm names now state → new ≡ old ++ table_text (local_table now row) → AppendsTable state Locals row old new
locals_shown algorithm names now state row old new seen is = is ∙ ap (λ (n : ℕ). old ++ table_text (local_table n row)) (sym seen.clock_is)

pub globals_shown : (algorithm : Algorithm) (names : NamesGiven) (now : ℕ) (state : State) (row : NodeLog) (old new : List ℕ) → IsSeenAt algorithm names now state → new ≡ old ++ global_table_text (global_table algorithm now row) → AppendsTable state Globals row old new
globals_shown algorithm names now state row old new seen is =
    is ∙ ap (λ (n : ℕ). old ++ global_table_text (global_table algorithm n row)) (sym seen.clock_is) ∙ ap (λ (a : Algorithm). old ++ global_table_text (global_table a state.clock row)) (sym seen.algorithm_is)

pub originators_shown : (algorithm : Algorithm) (names : NamesGiven) (now : ℕ) (state : State) (row : NodeLog) (old new : List ℕ) → IsSeenAt algorithm names now state → new ≡ old ++ orig_table_text (orig_table algorithm now row) → AppendsTable state Originators row old new
originators_shown algorithm names now state row old new seen is =
    is ∙ ap (λ (n : ℕ). old ++ orig_table_text (orig_table algorithm n row)) (sym seen.clock_is) ∙ ap (λ (a : Algorithm). old ++ orig_table_text (orig_table a state.clock row)) (sym seen.algorithm_is)

pub neighbors_shown : (algorithm : Algorithm) (names : NamesGiven) (now : ℕ) (state : State) (row : NodeLog) (old new : List ℕ) → IsSeenAt algorithm names now state → new ≡ old ++ link_table_text (link_table algorithm now row) → AppendsTable state Neighbors row old new
neighbors_shown algorithm names now state row old new seen is =
    is ∙ ap (λ (n : ℕ). old ++ link_table_text (link_table algorithm n row)) (sym seen.clock_is) ∙ ap (λ (a : Algorithm). old ++ link_table_text (link_table a state.clock row)) (sym seen.algorithm_is)

pub claims_shown : (algorithm : Algorithm) (names : NamesGiven) (now : ℕ) (state : State) (row : NodeLog) (old new : List ℕ) → IsSeenAt algorithm names now state → new ≡ old ++ claim_table_text (claim_table names now row) → AppendsTable state Claims row old new
claims_shown algorithm names now state row old new seen is =
    is ∙ ap (λ (n : ℕ). old ++ claim_table_text (claim_table names n row)) (sym seen.clock_is) ∙ ap (λ (ns : NamesGiven). old ++ claim_table_text (claim_table ns state.clock row)) (sym seen.names_are)

pub pictures_shown : (algorithm : Algorithm) (names : NamesGiven) (now : ℕ) (state : State) (row : NodeLog) (old new : List ℕ) → IsSeenAt algorithm names now state → new ≡ old ++ picture_table_text (picture_table algorithm now row) → AppendsTable state Pictures row old new
pictures_shown algorithm names now state row old new seen is =
    is ∙ ap (λ (n : ℕ). old ++ picture_table_text (picture_table algorithm n row)) (sym seen.clock_is) ∙ ap (λ (a : Algorithm). old ++ picture_table_text (picture_table a state.clock row)) (sym seen.algorithm_is)

-- ---- a text of its own

-- a table that a text without anything gains, and that is appended from there
pub table-behind : (state : State) (table : Table) (row : NodeLog) (empty text lent old new : List ℕ) → empty ≡ [] → lent ≡ text
    → AppendsTable state table row empty text → new ≡ old ++ lent → AppendsTable state table row old new
table-behind state table row empty text lent old new none same gains is =
    is ∙ ap (λ end. old ++ end) (same ∙ gains ∙ ap (λ front. front ++ printed_text state.choice (shown table state row)) none)
