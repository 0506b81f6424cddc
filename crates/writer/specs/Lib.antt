-- A frame written, or refused by number (Writer), and that it reads back (Trip).
pub mod Writer
pub mod Trip
