mod Serials
