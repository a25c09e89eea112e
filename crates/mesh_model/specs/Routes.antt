-- Routes: what a routing algorithm was given, what it heard, and the answers that follow. The main
-- words are `Queries`, the questions that a node asks its algorithm, in Queries, and `queries_of`,
-- their answers under each algorithm, in Algorithms. Addresses to Queries are for both algorithms,
-- Ogm to AlgorithmIv are algorithm IV, Ogm2 to AlgorithmV are algorithm V.
pub mod Addresses
pub mod Numbers
pub mod RouteLog
pub mod Life
pub mod BestRoute
pub mod Queries
pub mod Ogm
pub mod Quality
pub mod Hearings
pub mod AlgorithmIv
pub mod Ogm2
pub mod Neighbours
pub mod HearingsV
pub mod AlgorithmV
pub mod Algorithms
