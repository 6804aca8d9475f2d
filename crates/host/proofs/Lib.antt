mod Shaped
