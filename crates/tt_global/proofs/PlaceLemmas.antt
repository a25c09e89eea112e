-- What is read of what is kept: by originator, and by place.
use Rattle.std.proofs.Common.{◌≡◌, ℕ, Bool, true, false, cond, List, [], ◌∷◌, filter, filter_map, slice_get, Option, Some, None, option_map, option_and_then, refl, sym, ap, ap₂, ◌∙◌, Less}
use Rattle.std.proofs.Math.Path.{fun_ext}
use Rattle.std.specs.List.{AllByRecursion, cons_option}
use Rattle.std.specs.List.Sorted.{IsStrictlySortedBy}
use Rattle.std.specs.Map.{keys_of, lookup}
use Rattle.std.proofs.lemmas.Option.{slice_get-map}
use Rattle.mesh_base.specs.declared.address.Mac.{Mac}
use Rattle.mesh_base.specs.declared.client.Key.{Key}
use Rattle.mesh_model.specs.declared.table_row.GlobalRow.{GlobalRow}
use Rattle.mesh_model.specs.Routes.Addresses.{mac_order, same_mac}
use Rattle.mesh_model.specs.Tables.Known.{TableCalls, agrees, holders_by, known_by, names, originators_by, global_row}
use Rattle.mesh_model.specs.Tables.Versions.{Stamp, Version}
use Rattle.mesh_laws.proofs.MacLemmas.{other_by_order, same_self}
use Rattle.tt_global.specs.Globals.{GlobalsStand, Kept}
use Rattle.tt_global.specs.Kept.{held_in, kept_row, told_in, version_of}
use Rattle.tt_global.specs.declared.known.HeldTable.{HeldTable}
use Rattle.tt_global.specs.declared.known.KnownTable.{KnownTable}
use Rattle.tt_global.proofs.StandLemmas.{at}

-- the byte that was told
pub byte_told : (kept : Option KnownTable) → option_map (λ known. known.byte) kept ≡ option_map (λ stamp. stamp.byte) (told_in kept)
byte_told None = refl
byte_told (Some known) = refl

-- ---- rows
key_placed : {X : Type 0} (es : List (Mac × X)) (i : ℕ) (orig : Mac) (x : X) → slice_get es i ≡ Some (orig, x) → slice_get (keys_of es) i ≡ Some orig
key_placed es i orig x entry = slice_get-map (λ e. e.0) es i ∙ ap (option_map (λ e. e.0)) entry

abbrev row_from : Mac → Option Stamp → Option Version → Option GlobalRow
row_from orig told held = option_map (λ stamp. record {
  orig = orig;
  held = option_map (λ h. h.byte) held;
  told = stamp.byte;
  ok = agrees told held;
}) told

held_byte : (held : Option HeldTable) → option_map (λ h. h.byte) held ≡ option_map (λ h. h.byte) (option_map version_of held)
held_byte None = refl
held_byte (Some held) = refl

row_kept : (orig : Mac) (known : KnownTable) → Some (kept_row orig known) ≡ row_from orig (told_in (Some known)) (held_in (Some known))
row_kept orig known = ap (λ byte. Some (record { orig = orig; held = byte; told = known.byte; ok = agrees (told_in (Some known)) (held_in (Some known)) })) (held_byte known.held)

-- the row at a place
pub row_placed : (kept : Kept) (calls : TableCalls) → GlobalsStand kept calls → (i : ℕ) (orig : Mac) (known : KnownTable) → slice_get kept i ≡ Some (orig, known) → at orig kept ≡ Some known
    → Some (kept_row orig known) ≡ option_and_then (λ o. global_row o (known_by calls o)) (slice_get (originators_by calls) i)
row_placed kept calls stands i orig known entry found =
    row_kept orig known
    ∙ ap₂ (row_from orig) (ap told_in (sym found) ∙ stands.told orig) (ap held_in (sym found) ∙ stands.held orig)
    ∙ ap (option_and_then (λ o. global_row o (known_by calls o))) (sym (ap (λ l. slice_get l i) (sym stands.originators) ∙ key_placed kept i orig known entry))

-- ---- holders
-- the originator of what is kept, where the table that is held has a client
abbrev pub holder_in : Key → Mac × KnownTable → Option Mac
holder_in key e = cond (names key (held_in (Some e.1))) (Some e.0) None

module _ {X : Type 0} (passes : Option X → Bool) where
  others_pass : (first : Mac × X) (es : List (Mac × X)) (ks : List Mac) → AllByRecursion (λ k. mac_order first.0 k ≡ Less) ks
      → filter (λ k. passes (lookup (same_mac k) (first ∷ es))) ks ≡ filter (λ k. passes (lookup (same_mac k) es)) ks
  others_pass first es [] above = refl
  others_pass first es (k ∷ ks) above =
      ap (λ b. cond (passes (cond b (Some first.1) (lookup (same_mac k) es))) (k ∷ filter (λ o. passes (lookup (same_mac o) (first ∷ es))) ks) (filter (λ o. passes (lookup (same_mac o) (first ∷ es))) ks)) (other_by_order first.0 k above.0)
      ∙ ap (λ l. cond (passes (lookup (same_mac k) es)) (k ∷ l) l) (others_pass first es ks above.1)

  -- the keys whose values pass
  pub passing_keys : (es : List (Mac × X)) → IsStrictlySortedBy mac_order (keys_of es)
      → filter_map (λ e. cond (passes (Some e.1)) (Some e.0) None) es ≡ filter (λ k. passes (lookup (same_mac k) es)) (keys_of es)
  unfolding IsStrictlySortedBy
  passing_keys [] rise = refl
  passing_keys (e ∷ es) rise =
      first_passes (passes (Some e.1))
      ∙ ap (λ l. cond (passes (Some e.1)) (e.0 ∷ l) l) (passing_keys es rise.1 ∙ sym (others_pass e es (keys_of es) rise.0))
      ∙ ap (λ b. cond (passes (cond b (Some e.1) (lookup (same_mac e.0) es))) (e.0 ∷ filter (λ k. passes (lookup (same_mac k) (e ∷ es))) (keys_of es)) (filter (λ k. passes (lookup (same_mac k) (e ∷ es))) (keys_of es))) (sym (same_self e.0))
    where
      first_passes : (b : Bool) → cons_option (cond b (Some e.0) None) (filter_map (λ f. cond (passes (Some f.1)) (Some f.0) None) es) ≡ cond b (e.0 ∷ filter_map (λ f. cond (passes (Some f.1)) (Some f.0) None) es) (filter_map (λ f. cond (passes (Some f.1)) (Some f.0) None) es)
      first_passes true = refl
      first_passes false = refl

-- the originators that hold a client
pub holders_are : (kept : Kept) (calls : TableCalls) → GlobalsStand kept calls → (key : Key) → filter_map (holder_in key) kept ≡ holders_by calls key
holders_are kept calls stands key =
    passing_keys (λ known. names key (held_in known)) kept stands.rise
    ∙ ap₂ (λ p l. filter p l) (fun_ext (λ orig. ap (names key) (stands.held orig))) stands.originators
