-- The gateways of a LAN: which of them is the holder of a client there, by the claim frames that
-- came, and what a gateway does with a client frame from either side. The main words are
-- `claim_holder`, in Claims, and `verdict_from_mesh`, in Verdicts.
pub mod Claims
pub mod Verdicts
