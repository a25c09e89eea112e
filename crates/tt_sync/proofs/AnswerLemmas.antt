-- What an originator answers: changes or the whole table, by what is asked for and what is told.
use Rattle.std.proofs.Common.{◌≡◌, ◌≢◌, ℕ, Bool, true, false, List, refl, sym, ap, ◌∙◌, Option, Some, None}
use Rattle.std.specs.Prelude.{◌==◌, ◌&&◌, not, if◌then◌else◌}
use Rattle.std.proofs.lemmas.Bool.{eq-eqb, ne_eqb}
use Rattle.mesh_base.specs.declared.client.Entry.{Entry}
use Rattle.mesh_model.specs.declared.table_change.Change.{Change}
use Rattle.mesh_model.specs.Packets.Bodies.{VlanSum}
use Rattle.mesh_model.specs.Tables.Answers.{Reply, changes_reply, full_reply, own_reply}
use Rattle.mesh_model.specs.Tables.Sums.{sums_of}
use Rattle.mesh_model.specs.Tables.Versions.{Version}

-- changes that lead to a table of this byte and these sums
abbrev changes_to : ℕ → List VlanSum → List Change → Reply
changes_to byte sums records =
    record { full = false; stamp = record { byte = byte; sums = sums }; records = records }

-- changes, by what they lead to
changes_are : (byte : ℕ) (sums : List VlanSum) (records changes : List Change) (last : Version) → byte ≡ last.byte → sums ≡ sums_of last.table → records ≡ changes
    → changes_to byte sums records ≡ changes_reply last changes
changes_are byte sums records changes last bytes same are =
    ap (λ b. changes_to b sums records) bytes ∙ ap (λ s. changes_to last.byte s records) same ∙ ap (changes_to last.byte (sums_of last.table)) are

-- a whole table under its byte
whole_is : (byte : ℕ) (table : List Entry) (last : Version) → byte ≡ last.byte → table ≡ last.table → full_reply (record { byte = byte; table = table }) ≡ full_reply last
whole_is byte table last bytes same =
    ap (λ b. full_reply (record { byte = b; table = table })) bytes ∙ ap (λ t. full_reply (record { byte = last.byte; table = t })) same

-- changes are asked for under the last byte, or not
pub asked : (full : Bool) (byte here : ℕ) (last : Version) (told : Option (List Change)) → full ≡ false → byte ≡ here → here ≡ last.byte
    → told ≡ (if not full && (byte == last.byte) then told else None)
asked full byte here last told part is bytes =
    ap (λ b. if b then told else None) (sym (ap (λ b. not b && (byte == last.byte)) part ∙ eq-eqb byte last.byte (is ∙ bytes)))

pub asked_whole : (full : Bool) (byte : ℕ) (last : Version) (told : Option (List Change)) → full ≡ true → None ≡ (if not full && (byte == last.byte) then told else None)
asked_whole full byte last told whole = ap (λ b. if not b && (byte == last.byte) then told else None) (sym whole)

pub asked_else : (full : Bool) (byte here : ℕ) (last : Version) (told : Option (List Change)) → full ≡ false → byte ≢ here → here ≡ last.byte
    → None ≡ (if not full && (byte == last.byte) then told else None)
asked_else full byte here last told part other bytes =
    ap (λ b. if b then told else None) (sym (ap (λ b. not b && (byte == last.byte)) part ∙ ap (λ b. byte == b) (sym bytes) ∙ ne_eqb byte here other))

-- the answer with these changes, or without any
abbrev answered : Version → Option (List Change) → Reply
answered last None = full_reply last
answered last (Some changes) = changes_reply last changes

own_is : (full : Bool) (byte : ℕ) (last : Version) (told : Option (List Change))
    → answered last (if not full && (byte == last.byte) then told else None) ≡ own_reply full byte last told
own_is full byte last told = by_wish (not full && (byte == last.byte)) told
  where
    by_told : Bool → Option (List Change) → Reply
    by_told wanted None = full_reply last
    by_told wanted (Some changes) = if wanted then changes_reply last changes else full_reply last

    by_wish : (wanted : Bool) (told : Option (List Change)) → answered last (if wanted then told else None) ≡ by_told wanted told
    by_wish true None = refl
    by_wish false None = refl
    by_wish true (Some changes) = refl
    by_wish false (Some changes) = refl

-- the answer has changes that are asked for and told
pub answers_changes : (full : Bool) (byte here : ℕ) (sums : List VlanSum) (records changes : List Change) (last : Version) (told : Option (List Change))
    → here ≡ last.byte → sums ≡ sums_of last.table → records ≡ changes → Some changes ≡ (if not full && (byte == last.byte) then told else None)
    → changes_to here sums records ≡ own_reply full byte last told
answers_changes full byte here sums records changes last told bytes same are asked =
    changes_are here sums records changes last bytes same are ∙ ap (answered last) asked ∙ own_is full byte last told

-- the answer has the whole table
pub answers_whole : (full : Bool) (byte here : ℕ) (table : List Entry) (reply : Reply) (last : Version) (told : Option (List Change))
    → here ≡ last.byte → table ≡ last.table → reply ≡ full_reply (record { byte = here; table = table })
    → None ≡ (if not full && (byte == last.byte) then told else None) → reply ≡ own_reply full byte last told
answers_whole full byte here table reply last told bytes same is asked =
    is ∙ whole_is here table last bytes same ∙ ap (answered last) asked ∙ own_is full byte last told
