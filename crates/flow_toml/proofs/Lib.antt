mod ItemLoop
mod TableInserts
mod DocumentOfFlow
