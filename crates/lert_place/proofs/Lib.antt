mod Handing
mod Shelves
