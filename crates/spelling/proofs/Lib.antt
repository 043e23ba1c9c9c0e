mod Items
mod Words
