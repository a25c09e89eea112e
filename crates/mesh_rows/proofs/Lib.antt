-- How the definitions compute on scenarios, bytes and lines that are written out.
pub mod OnLiterals
pub mod RoutesOnLiterals
pub mod DecodeOnLiterals
pub mod NetOnLiterals
pub mod TablesOnLiterals
pub mod ServicesOnLiterals
pub mod PicturesOnLiterals
pub mod FragmentsOnLiterals
pub mod CutsOnLiterals
pub mod LoopsOnLiterals
pub mod LineOnLiterals
pub mod WordsOnLiterals
pub mod GeneratedOnLiterals
