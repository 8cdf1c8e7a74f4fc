mod Doubles
mod FieldRows
