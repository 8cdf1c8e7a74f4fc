-- The texts of the statements.
use Rattle.std.specs.Prelude.{codes, List, ℕ}

abbrev pub salt_text : List ℕ
salt_text = codes "CREATE TABLE salt (n INTEGER NOT NULL PRIMARY KEY, bytes BLOB NOT NULL) STRICT"

abbrev pub item_text : List ℕ
item_text =
    codes
    "CREATE TABLE item (id INTEGER NOT NULL PRIMARY KEY, card BLOB NOT NULL, request BLOB NOT NULL, amount INTEGER NOT NULL, day INTEGER NOT NULL, reversed INTEGER NOT NULL, UNIQUE (request, id), UNIQUE (day, id)) STRICT"

abbrev pub add_salt_text : List ℕ
add_salt_text = codes "INSERT INTO salt (n, bytes) VALUES (1, ?1)"

abbrev pub put_item_text : List ℕ
put_item_text =
    codes "INSERT INTO item (id, card, request, amount, day, reversed) VALUES (?1, ?2, ?3, ?4, ?5, ?6) ON CONFLICT (id) DO NOTHING"

abbrev pub mark_item_text : List ℕ
mark_item_text = codes "UPDATE item SET reversed = 1 WHERE id = ?1"

abbrev pub drop_items_text : List ℕ
drop_items_text = codes "DELETE FROM item WHERE day = ?1 AND id <= ?2"

abbrev pub all_salt_text : List ℕ
all_salt_text = codes "SELECT n, bytes FROM salt ORDER BY n"

abbrev pub next_items_text : List ℕ
next_items_text = codes "SELECT id, card, request, amount, day, reversed FROM item WHERE id > ?1 AND day >= ?2 ORDER BY id LIMIT ?3"

abbrev pub of_request_text : List ℕ
of_request_text = codes "SELECT id, reversed FROM item WHERE request = ?1 ORDER BY id"

abbrev pub of_id_text : List ℕ
of_id_text = codes "SELECT id FROM item WHERE id = ?1 ORDER BY id"

abbrev pub first_day_text : List ℕ
first_day_text = codes "SELECT day FROM item WHERE day >= ?1 ORDER BY day, id LIMIT 1"

abbrev pub first_ids_text : List ℕ
first_ids_text = codes "SELECT id FROM item WHERE day = ?1 ORDER BY id LIMIT ?2"

abbrev pub used_text : List ℕ
used_text = codes "SELECT coalesce(sum(amount), 0) FROM item WHERE card = ?1 AND day = ?2 AND reversed = 0"

abbrev pub sum_text : List ℕ
sum_text = codes "SELECT coalesce(sum(amount), 0) FROM item WHERE day = ?1 AND reversed = 0"
