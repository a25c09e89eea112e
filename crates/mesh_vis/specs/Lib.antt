-- What the contracts cite: the laws of pictures.
pub mod Laws
