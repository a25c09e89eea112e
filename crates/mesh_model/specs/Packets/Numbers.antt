-- The numbers that stand in packets, as batman-adv's packet header has them (compat version 15):
-- type bytes, message types, flag bits, the types and versions of containers, and the types of
-- Ethernet frames. Nothing but this file says them.
use Rattle.std.specs.Prelude.{ℕ}

-- the version byte, the second of each packet
abbrev pub compat_version : ℕ
compat_version = 15

-- the type byte of an originator message of algorithm IV
abbrev pub iv_ogm_type : ℕ
iv_ogm_type = 0

-- the type byte of a broadcast
abbrev pub bcast_type : ℕ
bcast_type = 1

-- the type byte of a message of the echo location protocol
abbrev pub elp_type : ℕ
elp_type = 3

-- the type byte of an originator message of algorithm V
abbrev pub ogm2_type : ℕ
ogm2_type = 4

-- the type byte of a frame for one node
abbrev pub unicast_type : ℕ
unicast_type = 64

-- the type byte of a fragment
abbrev pub frag_type : ℕ
frag_type = 65

-- the type byte of a frame for one node with its sender
abbrev pub unicast4_type : ℕ
unicast4_type = 66

-- the subtypes of a frame for one node with its sender: a question for a pair of the ARP table, a
-- pair that is to be kept, and an answer
abbrev pub dht_get_subtype : ℕ
dht_get_subtype = 2

abbrev pub dht_put_subtype : ℕ
dht_put_subtype = 3

abbrev pub cache_reply_subtype : ℕ
cache_reply_subtype = 4

-- the type byte of a message of ping or traceroute
abbrev pub icmp_type : ℕ
icmp_type = 67

-- the type byte of containers for one node
abbrev pub utvlv_type : ℕ
utvlv_type = 68

-- the message type of ping and traceroute that answers an echo request
abbrev pub echo_reply : ℕ
echo_reply = 0

-- the message type that says that no route leads on
abbrev pub destination_unreachable : ℕ
destination_unreachable = 3

-- the message type that asks for an answer
abbrev pub echo_request : ℕ
echo_request = 8

-- the message type that says that no hop was left
abbrev pub ttl_exceeded : ℕ
ttl_exceeded = 11

-- flag of an originator message of algorithm IV: the sender isn't the best next hop
abbrev pub not_best_next_hop_flag : ℕ
not_best_next_hop_flag = 1

-- flag of an originator message of algorithm IV: it came back over the link that it was sent on
abbrev pub directlink_flag : ℕ
directlink_flag = 4

-- the type of a gateway's container
abbrev pub gateway_tvlv : ℕ
gateway_tvlv = 1

-- the type of the container of the distributed ARP table
abbrev pub dat_tvlv : ℕ
dat_tvlv = 2

-- the type of the container of a translation table
abbrev pub tt_tvlv : ℕ
tt_tvlv = 4

-- the type of a roaming advertisement
abbrev pub roaming_tvlv : ℕ
roaming_tvlv = 5

-- the type of the container of multicast flags
abbrev pub multicast_tvlv : ℕ
multicast_tvlv = 6

-- the version of containers other than multicast and parts of a translation table
abbrev pub tvlv_version : ℕ
tvlv_version = 1

-- the version of a container with a part of a translation table
abbrev pub tt_part_version : ℕ
tt_part_version = 2

-- the version of a multicast container
abbrev pub multicast_version : ℕ
multicast_version = 2

-- flag of a translation table that comes with an originator message
abbrev pub ogm_diff_flag : ℕ
ogm_diff_flag = 1

-- flag of a request for a translation table
abbrev pub request_flag : ℕ
request_flag = 2

-- flag of an answer to a request
abbrev pub response_flag : ℕ
response_flag = 4

-- flag of a whole translation table, asked for or given
abbrev pub full_table_flag : ℕ
full_table_flag = 16

-- flag of a record that takes its client away
abbrev pub del_flag : ℕ
del_flag = 1

-- flag of a record whose client has roamed; written 0 and ignored
abbrev pub roam_flag : ℕ
roam_flag = 2

-- flag of a client on a wireless device
abbrev pub wifi_flag : ℕ
wifi_flag = 16

-- flag of an isolated client
abbrev pub isolated_flag : ℕ
isolated_flag = 32

-- the type that says that a VLAN's number follows: 0x8100
abbrev pub vlan_ethertype : ℕ
vlan_ethertype = 33024

-- the type of a client frame: 0x88b5
abbrev pub client_ethertype : ℕ
client_ethertype = 34997

-- the type of a frame that claims a client: 0x88b6
abbrev pub claim_ethertype : ℕ
claim_ethertype = 34998

-- the type of ARP: 0x0806
abbrev pub arp_ethertype : ℕ
arp_ethertype = 2054

-- the type of a message of the fact store: 0x4242
abbrev pub alfred_ethertype : ℕ
alfred_ethertype = 16962

-- how many hops a packet may go that a node makes
abbrev pub first_ttl : ℕ
first_ttl = 50
