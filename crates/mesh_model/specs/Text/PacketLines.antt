-- The line of a packet: `packet`, the word of its kind, and its fields, each with its name. Flags
-- are two hex digits, other numbers decimal. `data` and `tvlv` are the length of the tail, the
-- header not counted; a tail of containers is `tvlv`. The main word is `packet_line`.
use Rattle.std.specs.Prelude.{ℕ, List, [], ◌∷◌, ◌++◌, codes, decimal}
use Rattle.std.specs.List.{concat}
use Rattle.mesh_base.specs.Address.{hex_of_byte, mac_text}
use Rattle.mesh_base.specs.declared.address.Mac.{Mac}
use Rattle.mesh_model.specs.declared.packet.Head.{Head}
use Rattle.mesh_model.specs.declared.packet.Head.TheVariants.{IvOgm, Bcast, Elp, Ogm2, Unicast, Frag, Unicast4, Icmp, Utvlv}
use Rattle.mesh_model.specs.Packets.Shapes.{iv_ogm, bcast, elp, ogm2, unicast, frag, unicast4, icmp, utvlv}
use Rattle.mesh_model.specs.Scenario.Lines.{newline}

-- a line of these parts
abbrev pub line_of : List (List ℕ) → List ℕ
line_of parts = concat parts ++ newline ∷ []

-- a number behind its name
abbrev pub named_number : List ℕ → ℕ → List ℕ
named_number name value = name ++ decimal value

-- an address behind its name
abbrev pub named_address : List ℕ → Mac → List ℕ
named_address name mac = name ++ mac_text mac

-- a byte of flags behind its name
abbrev pub named_flags : List ℕ → ℕ → List ℕ
named_flags name flags = name ++ hex_of_byte flags

-- the line of a packet with this head, and a tail of this length
unfoldable pub packet_line : Head → ℕ → List ℕ
packet_line (IvOgm ttl flags seq orig prev tq) len =
    line_of (codes "packet " ∷ iv_ogm.word ∷ named_number (codes " ttl=") ttl
    ∷ named_flags (codes " flags=") flags ∷ named_number (codes " seq=") seq
    ∷ named_address (codes " orig=") orig ∷ named_address (codes " prev=") prev
    ∷ named_number (codes " tq=") tq ∷ named_number (codes " tvlv=") len ∷ [])
packet_line (Bcast ttl seq orig) len =
    line_of (codes "packet " ∷ bcast.word ∷ named_number (codes " ttl=") ttl
    ∷ named_number (codes " seq=") seq ∷ named_address (codes " orig=") orig
    ∷ named_number (codes " data=") len ∷ [])
packet_line (Elp orig seq interval) len =
    line_of (codes "packet " ∷ elp.word ∷ named_address (codes " orig=") orig
    ∷ named_number (codes " seq=") seq ∷ named_number (codes " interval=") interval ∷ [])
packet_line (Ogm2 ttl flags seq orig throughput) len =
    line_of (codes "packet " ∷ ogm2.word ∷ named_number (codes " ttl=") ttl
    ∷ named_flags (codes " flags=") flags ∷ named_number (codes " seq=") seq
    ∷ named_address (codes " orig=") orig ∷ named_number (codes " tvlv=") len
    ∷ named_number (codes " tp=") throughput ∷ [])
packet_line (Unicast ttl ttvn dst) len =
    line_of (codes "packet " ∷ unicast.word ∷ named_number (codes " ttl=") ttl
    ∷ named_number (codes " ttvn=") ttvn ∷ named_address (codes " dst=") dst
    ∷ named_number (codes " data=") len ∷ [])
packet_line (Frag ttl index priority dst orig seq total) len =
    line_of (codes "packet " ∷ frag.word ∷ named_number (codes " ttl=") ttl
    ∷ named_number (codes " no=") index ∷ named_number (codes " prio=") priority
    ∷ named_address (codes " dst=") dst ∷ named_address (codes " orig=") orig
    ∷ named_number (codes " seq=") seq ∷ named_number (codes " total=") total
    ∷ named_number (codes " data=") len ∷ [])
packet_line (Unicast4 ttl ttvn dst src subtype) len =
    line_of (codes "packet " ∷ unicast4.word ∷ named_number (codes " ttl=") ttl
    ∷ named_number (codes " ttvn=") ttvn ∷ named_address (codes " dst=") dst
    ∷ named_address (codes " src=") src ∷ named_number (codes " sub=") subtype
    ∷ named_number (codes " data=") len ∷ [])
packet_line (Icmp ttl msg dst orig uid seq) len =
    line_of (codes "packet " ∷ icmp.word ∷ named_number (codes " ttl=") ttl
    ∷ named_number (codes " msg=") msg ∷ named_address (codes " dst=") dst
    ∷ named_address (codes " orig=") orig ∷ named_number (codes " uid=") uid
    ∷ named_number (codes " seq=") seq ∷ [])
packet_line (Utvlv ttl dst src) len =
    line_of (codes "packet " ∷ utvlv.word ∷ named_number (codes " ttl=") ttl
    ∷ named_address (codes " dst=") dst ∷ named_address (codes " src=") src
    ∷ named_number (codes " tvlv=") len ∷ [])
