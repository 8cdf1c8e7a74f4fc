-- The names of the indexes that SQLite makes for what is unique in `item`.
-- for: layout::is_request_key
use Rattle.std.proofs.Common.{◌≡◌, codes, refl}
use Rattle.sqlite_tied.specs.Compute.{everything}
use Rattle.book_store.specs.Schema.{request_key, day_key}

pub request_key_name : request_key.name ≡ codes "sqlite_autoindex_item_1"
unfolding everything
request_key_name = refl

pub day_key_name : day_key.name ≡ codes "sqlite_autoindex_item_2"
unfolding everything
day_key_name = refl
