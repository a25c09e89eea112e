-- The lines of tables, of packets and of events: each ends at its only newline, and tells its kind.
use Rattle.std.proofs.Common.{◌≡◌, ℕ, ◌-◌, ◌/◌, ◌%◌, ◌&&◌, Bool, true, false, not, cond, List, [], ◌∷◌, ◌++◌, Option, Some, None, refl, sym}
use Rattle.std.specs.Prelude.{◌==◌, codes, decimal, nat_le}
use Rattle.std.specs.List.{concat}
use Rattle.byteorder.specs.Endian.{big_bytes}
use Rattle.hex.specs.Hex.{encode_lower}
use Rattle.mesh_base.specs.Address.{hex_of_byte, mac_text}
use Rattle.mesh_base.specs.Vlan.{tagged_bit}
use Rattle.mesh_base.specs.declared.address.Mac.{Mac}
use Rattle.mesh_base.specs.declared.client.Key.{Key}
use Rattle.mesh_base.specs.declared.client.Entry.{Entry}
use Rattle.mesh_base.specs.declared.client.Vid.{Vid}
use Rattle.mesh_model.specs.declared.claim.ClaimRow.{ClaimRow}
use Rattle.mesh_model.specs.declared.line_form.Algorithm.{Algorithm}
use Rattle.mesh_model.specs.declared.line_form.Algorithm.TheVariants.{Iv, V}
use Rattle.mesh_model.specs.declared.route.LinkRow.{LinkRow}
use Rattle.mesh_model.specs.declared.route.LinkRow.TheVariants.{Iv as IvLink, V as VLink}
use Rattle.mesh_model.specs.declared.route.OrigRow.{OrigRow}
use Rattle.mesh_model.specs.declared.table_row.GlobalRow.{GlobalRow}
use Rattle.mesh_model.specs.declared.table_row.LocalRow.{LocalRow}
use Rattle.mesh_model.specs.Packets.Bodies.{VlanSum}
use Rattle.mesh_model.specs.Scenario.Lines.{newline}
use Rattle.mesh_model.specs.Text.Claims.{claim_header, claim_line, name_or_dash}
use Rattle.mesh_model.specs.Text.GlobalTables.{agreement_word, byte_text, entry_line, global_header, global_line, mark_line, state_word}
use Rattle.mesh_model.specs.Text.PacketLines.{line_of, named_address, named_flags, named_number}
use Rattle.mesh_model.specs.Text.Tables.{address_text, age_text, algorithm_word, flag_text, flags_text, local_header, local_line, neighbor_line, orig_line, route_header, sum_text, vid_text, vlan_line}
use Rattle.mesh_laws.specs.Cuts.{IsLine, IsUnbroken}
use Rattle.mesh_lines.specs.LineWords.{IsWord, LineKind, kind_of, of_entry, of_originator, of_other}
use Rattle.mesh_lines.proofs.Words.{decimal_word, either_word, hex_byte_word, hex_word, mac_word, word_both, word_if}

-- ---- parts
-- whether no byte is a newline
abbrev is_unbroken : List ℕ → Bool
is_unbroken [] = true
is_unbroken (b ∷ bs) = not (b == newline) && is_unbroken bs

not_newline : (n rest : Bool) → (not n && rest) ≡ true → n ≡ false
not_newline true rest e = sym e
not_newline false rest e = refl

right_true : (a b : Bool) → (a && b) ≡ true → b ≡ true
right_true true b e = e
right_true false true e = refl
right_true false false e = e

pub said : (bs : List ℕ) → is_unbroken bs ≡ true → IsUnbroken bs
said [] e = tt
said (b ∷ bs) e = (not_newline (b == newline) (is_unbroken bs) e, said bs (right_true (not (b == newline)) (is_unbroken bs) e))

pub unbroken_word : (bs : List ℕ) → IsWord bs → IsUnbroken bs
unbroken_word [] w = tt
unbroken_word (b ∷ bs) w = (not_newline (b == newline) _ w.0, unbroken_word bs w.1)

pub unbroken_both : (a b : List ℕ) → IsUnbroken a → IsUnbroken b → IsUnbroken (a ++ b)
unbroken_both [] b p q = q
unbroken_both (x ∷ a) b p q = (p.0, unbroken_both a b p.1 q)

pub number : (name : List ℕ) (n : ℕ) → is_unbroken name ≡ true → IsUnbroken (named_number name n)
number name n e = unbroken_both name (decimal n) (said name e) (unbroken_word (decimal n) (decimal_word n))

pub mac : (name : List ℕ) (m : Mac) → is_unbroken name ≡ true → IsUnbroken (named_address name m)
mac name m e = unbroken_both name (mac_text m) (said name e) (unbroken_word (mac_text m) (mac_word m))

pub byte_flags : (name : List ℕ) (n : ℕ) → is_unbroken name ≡ true → IsUnbroken (named_flags name n)
byte_flags name n e = unbroken_both name (hex_of_byte n) (said name e) (unbroken_word (hex_of_byte n) (hex_byte_word n))

-- the parts of a line have no newline
abbrev pub AllUnbroken : List (List ℕ) → Type 0
AllUnbroken [] = Unit {0}
AllUnbroken (part ∷ parts) = IsUnbroken part × AllUnbroken parts

all_joined : (parts : List (List ℕ)) → AllUnbroken parts → IsUnbroken (concat parts)
all_joined [] all = tt
all_joined (part ∷ parts) all = unbroken_both part (concat parts) all.0 (all_joined parts all.1)

-- a line of a kind
pub record Told (kind : LineKind) (line : List ℕ) : Type 0 where
  pub whole : IsLine line
  pub kind_is : kind_of line ≡ kind

pub told : (kind : LineKind) (parts : List (List ℕ)) → AllUnbroken parts → kind_of (line_of parts) ≡ kind → Told kind (line_of parts)
told kind parts all is = record { whole = record { text = concat parts; unbroken = all_joined parts all; line_is = refl }; kind_is = is }

-- ---- words
pub vid_word : (vid : Vid) → IsWord (vid_text vid)
unfolding vid_text
vid_word vid = either_word (vid.0 == 0) (codes "-") (cond (nat_le tagged_bit vid.0) (decimal (vid.0 - tagged_bit)) (codes "raw:" ++ decimal vid.0)) (word_if (codes "-") refl)
    (either_word (nat_le tagged_bit vid.0) (decimal (vid.0 - tagged_bit)) (codes "raw:" ++ decimal vid.0) (decimal_word (vid.0 - tagged_bit))
    (word_both (codes "raw:") (decimal vid.0) (word_if (codes "raw:") refl) (decimal_word vid.0)))

pub vid : (v : Vid) → IsUnbroken (vid_text v)
vid v = unbroken_word (vid_text v) (vid_word v)

pub flags_word : (flags : ℕ) → IsWord (flags_text flags)
unfolding flags_text
flags_word flags = word_both (flag_text flags 16 (codes "w")) (flag_text flags 32 (codes "i"))
    (either_word (flags / 16 % 2 == 1) (codes "w") (codes "-") (word_if (codes "w") refl) (word_if (codes "-") refl))
    (either_word (flags / 32 % 2 == 1) (codes "i") (codes "-") (word_if (codes "i") refl) (word_if (codes "-") refl))

age : (o : Option ℕ) → IsUnbroken (age_text o)
unfolding age_text
age None = said (codes "-") refl
age (Some n) = unbroken_word (decimal n) (decimal_word n)

sum : (n : ℕ) → IsUnbroken (sum_text n)
unfolding sum_text
sum n = unbroken_word (encode_lower (big_bytes 4 n)) (hex_word (big_bytes 4 n))

pub byte_word : (o : Option ℕ) → IsWord (byte_text o)
byte_word None = word_if (codes "-") refl
byte_word (Some n) = decimal_word n

agreed_word : (b : Bool) → IsWord (agreement_word b)
agreed_word true = word_if (codes "ok") refl
agreed_word false = word_if (codes "old") refl

pub state_is_word : (o : Option ℕ) (b : Bool) → IsWord (state_word o b)
state_is_word None b = word_if (codes "none") refl
state_is_word (Some n) b = agreed_word b

pub address : (o : Option Mac) → IsUnbroken (address_text o)
address None = said (codes "-") refl
address (Some m) = unbroken_word (mac_text m) (mac_word m)

algorithm : (a : Algorithm) → IsUnbroken (algorithm_word a)
algorithm Iv = said (codes "iv") refl
algorithm V = said (codes "v") refl

-- ---- tables
pub local_header_told : (name : List ℕ) (version clients : ℕ) → IsUnbroken name → Told of_other (local_header name version clients)
unfolding local_header
local_header_told name version clients plain = told of_other (codes "tl " ∷ name ∷ named_number (codes " version=") version ∷ named_number (codes " clients=") clients ∷ [])
    (said (codes "tl ") refl, (plain, (number (codes " version=") version refl, (number (codes " clients=") clients refl, tt)))) refl

pub vlan_told : (vlan : VlanSum) → Told of_other (vlan_line vlan)
unfolding vlan_line
vlan_told vlan = told of_other (codes "vlan " ∷ vid_text vlan.vid ∷ codes " sum=" ∷ sum_text vlan.sum ∷ [])
    (said (codes "vlan ") refl, (vid vlan.vid, (said (codes " sum=") refl, (sum vlan.sum, tt)))) refl

pub local_told : (row : LocalRow) → Told of_other (local_line row)
unfolding local_line
local_told row = told of_other (named_address (codes "c ") row.entry.key.mac ∷ codes " " ∷ vid_text row.entry.key.vid ∷ codes " " ∷ flags_text row.entry.flags ∷ codes " age=" ∷ age_text row.age ∷ [])
    (mac (codes "c ") row.entry.key.mac refl, (said (codes " ") refl, (vid row.entry.key.vid, (said (codes " ") refl, (unbroken_word (flags_text row.entry.flags) (flags_word row.entry.flags), (said (codes " age=") refl, (age row.age, tt))))))) refl

pub orig_header_told : (name : List ℕ) (a : Algorithm) (count : ℕ) → IsUnbroken name → Told of_other (route_header (codes "o") name a count)
unfolding route_header
orig_header_told name a count plain = told of_other (codes "o" ∷ codes " " ∷ name ∷ codes " algo=" ∷ algorithm_word a ∷ named_number (codes " count=") count ∷ [])
    (said (codes "o") refl, (said (codes " ") refl, (plain, (said (codes " algo=") refl, (algorithm a, (number (codes " count=") count refl, tt)))))) refl

pub link_header_told : (name : List ℕ) (a : Algorithm) (count : ℕ) → IsUnbroken name → Told of_other (route_header (codes "n") name a count)
unfolding route_header
link_header_told name a count plain = told of_other (codes "n" ∷ codes " " ∷ name ∷ codes " algo=" ∷ algorithm_word a ∷ named_number (codes " count=") count ∷ [])
    (said (codes "n") refl, (said (codes " ") refl, (plain, (said (codes " algo=") refl, (algorithm a, (number (codes " count=") count refl, tt)))))) refl

pub orig_told : (row : OrigRow) → Told of_other (orig_line row)
unfolding orig_line
orig_told row = told of_other (named_address (codes "o ") row.orig ∷ named_number (codes " seq=") row.seq ∷ named_number (codes " seen=") row.seen ∷ codes " next=" ∷ address_text row.next ∷ named_number (codes " metric=") row.metric ∷ [])
    (mac (codes "o ") row.orig refl, (number (codes " seq=") row.seq refl, (number (codes " seen=") row.seen refl, (said (codes " next=") refl, (address row.next, (number (codes " metric=") row.metric refl, tt)))))) refl

pub neighbor_told : (row : LinkRow) → Told of_other (neighbor_line row)
unfolding neighbor_line
neighbor_told (IvLink neigh rq eq) = told of_other (named_address (codes "n ") neigh ∷ named_number (codes " rq=") rq ∷ named_number (codes " eq=") eq ∷ [])
    (mac (codes "n ") neigh refl, (number (codes " rq=") rq refl, (number (codes " eq=") eq refl, tt))) refl
neighbor_told (VLink neigh tp seen) = told of_other (named_address (codes "n ") neigh ∷ named_number (codes " tp=") tp ∷ named_number (codes " seen=") seen ∷ [])
    (mac (codes "n ") neigh refl, (number (codes " tp=") tp refl, (number (codes " seen=") seen refl, tt))) refl

pub global_header_told : (name : List ℕ) (count : ℕ) → IsUnbroken name → Told of_other (global_header name count)
unfolding global_header
global_header_told name count plain = told of_other (codes "tg " ∷ name ∷ named_number (codes " count=") count ∷ [])
    (said (codes "tg ") refl, (plain, (number (codes " count=") count refl, tt))) refl

pub global_told : (row : GlobalRow) (entries : ℕ) → Told of_originator (global_line row entries)
unfolding global_line
global_told row entries = told of_originator (named_address (codes "t ") row.orig ∷ codes " held=" ∷ byte_text row.held ∷ named_number (codes " told=") row.told ∷ codes " state=" ∷ state_word row.held row.ok ∷ named_number (codes " entries=") entries ∷ [])
    (mac (codes "t ") row.orig refl, (said (codes " held=") refl, (unbroken_word (byte_text row.held) (byte_word row.held), (number (codes " told=") row.told refl, (said (codes " state=") refl, (unbroken_word (state_word row.held row.ok) (state_is_word row.held row.ok), (number (codes " entries=") entries refl, tt))))))) refl

pub entry_told : (entry : Entry) → Told of_entry (entry_line entry)
unfolding entry_line
entry_told entry = told of_entry (named_address (codes "e ") entry.key.mac ∷ codes " " ∷ vid_text entry.key.vid ∷ codes " " ∷ flags_text entry.flags ∷ [])
    (mac (codes "e ") entry.key.mac refl, (said (codes " ") refl, (vid entry.key.vid, (said (codes " ") refl, (unbroken_word (flags_text entry.flags) (flags_word entry.flags), tt))))) refl

pub mark_told : (mark : Key × Mac) → Told of_other (mark_line mark)
unfolding mark_line
mark_told mark = told of_other (named_address (codes "r ") mark.0.mac ∷ codes " " ∷ vid_text mark.0.vid ∷ named_address (codes " to=") mark.1 ∷ [])
    (mac (codes "r ") mark.0.mac refl, (said (codes " ") refl, (vid mark.0.vid, (mac (codes " to=") mark.1 refl, tt)))) refl

pub claim_header_told : (name : List ℕ) (lan : Option (List ℕ)) (count : ℕ) → IsUnbroken name → IsUnbroken (name_or_dash lan) → Told of_other (claim_header name lan count)
unfolding claim_header
claim_header_told name lan count plain also = told of_other (codes "cl " ∷ name ∷ codes " lan=" ∷ name_or_dash lan ∷ named_number (codes " count=") count ∷ [])
    (said (codes "cl ") refl, (plain, (said (codes " lan=") refl, (also, (number (codes " count=") count refl, tt))))) refl

pub claim_told : (row : ClaimRow) → Told of_other (claim_line row)
unfolding claim_line
claim_told row = told of_other (named_address (codes "k ") row.key.mac ∷ codes " " ∷ vid_text row.key.vid ∷ named_address (codes " holder=") row.holder ∷ named_number (codes " age=") row.age ∷ [])
    (mac (codes "k ") row.key.mac refl, (said (codes " ") refl, (vid row.key.vid, (mac (codes " holder=") row.holder refl, (number (codes " age=") row.age refl, tt))))) refl
