mod CheckedConfig
mod Doubles
mod EarlierTables
mod NoFault
