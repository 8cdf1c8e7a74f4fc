mod Masks
mod PieceText
mod StreamText
mod MessageText
